use Rattle.std.proofs.Common.{suc}
use Rattle.script_lines.specs.Lines.{lines}
use Rattle.script_run.specs.Segments.{segment_from}
use Rattle.threaded_run.proofs.IssuingLaws.{closed-put}
use Rattle.threaded_run.proofs.issuing.issue.Goals as goal

pub returns-clause-put : goal.returns-clause-put
returns-clause-put g c =
    closed-put c.args.queue.now (segment_from (suc c.args.number) c.args.browser (lines c.args.text.now)) c.args.issuer
    c.issue_lines-issuer.result.0 c.put_sync-issuer.result c.put-issuer.result c.issue_lines-issuer.result.2
    c.put_sync-issuer.ensures c.put-issuer.ensures c.issue_lines-issuer.ensures.put
