-- The room that was made for a command: its frame stands behind what waits, and both limits let it be taken.
use Rattle.std.specs.Prelude.{◌≡◌, ◌+◌, ◌≤◌, ◌++◌}
use Rattle.snss_frames.specs.Frame.{frame_bytes}
use Rattle.machine_law.specs.declared.machine.Machine as machine
use Rattle.session_disk.specs.declared.disk.SessionDisk as disk
use Rattle.fresh_files.specs.Fresh.{frame_of, frame_length}
use Rattle.log_writer.specs.Waiting.{place_in, waiting_in}
use Rattle.log_writer.specs.Answers.{behind_spared}
use Rattle.log_writer.specs.declared.journal.Journal.{Journal}
use Rattle.log_writer.specs.declared.writing.Room.{Room}

module _ {M D S C : Type 0} {m : machine.Ghosts M S C} {d : disk.Ghosts D} where
  -- the frame of a command stands behind what waits
  pub record Drafted (j : Journal M D S C m d) (command : C) (room : Room) : Type 0 where
    pub bytes : j.pending.bytes.items ≡ (waiting_in j.pending).bytes ++ frame_bytes (frame_of m.kind command)
    pub place : room.place ≡ place_in m.kind (waiting_in j.pending) command
    pub extent : room.extent ≡ behind_spared j command
    pub size : room.size ≡ frame_length m.kind command

  -- and may be taken by the limits
  pub record Fits (j : Journal M D S C m d) (command : C) (room : Room) : Type 0 where
    pub drafted : Drafted j command room
    pub few : room.extent.after + 1 ≤ j.limits.every
    pub short : room.extent.length + room.size ≤ j.limits.max_file
