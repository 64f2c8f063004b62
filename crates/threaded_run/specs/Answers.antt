-- What a segment comes to, by its writer and its issuer.
use Rattle.std.specs.Prelude.{Option, None, Some, Result, Ok, Err}
use Rattle.writer_core.specs.declared.handling.Stopped.{Stopped}
use Rattle.script_run.specs.declared.halt.Halt.{Halt}
use Rattle.script_run.specs.declared.halt.Halt.TheVariants as halt
use Rattle.script_run.specs.declared.segments.Ended.{Ended}
use Rattle.threaded_run.specs.declared.issuing.Issued.{Issued}
use Rattle.threaded_run.specs.declared.issuing.Issued.TheVariants as issued

-- A refusal by a journal goes before all else. An issuer that stopped saw one.
abbrev pub answer_of : Option Stopped → Issued → Result Ended Halt
answer_of (Some stopped) how = Err (halt.Journal stopped)
answer_of None (issued.Over ended) = Ok ended
answer_of None issued.Memory = Err halt.Memory
answer_of None issued.Stopped = Err halt.Memory
