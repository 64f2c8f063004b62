use Rattle.std.proofs.Common.{◌≡◌, true, reverse, sym, ap, ◌∙◌}
use Rattle.std.specs.Option.{option_copied}
use Rattle.session_disk.specs.DiskFiles.{is_bounded}
use Rattle.session_disk.proofs.Finding.{IfSome-copied}
use Rattle.session_disk.proofs.Meaning.{standing_meant, removed_meant, found_stamp, standing_bounded, removed_bounded}
use Rattle.session_disk.proofs.memory.crash.file_meant.Goals as goal

pub returns-in-Some-clause-value : goal.returns-in-Some-clause-value
returns-in-Some-clause-value c =
    standing_meant c.args.files.now c.args.removed.now c.args.stamp c.in-Some.file.now (sym c.get.ensures ∙ ap option_copied c.in-Some.is)

pub returns-in-Some-clause-bounded : goal.returns-in-Some-clause-bounded
returns-in-Some-clause-bounded c =
    standing_bounded c.args.files.now c.args.stamp c.in-Some.file.now (sym c.get.ensures ∙ ap option_copied c.in-Some.is) c.requires.listed

pub returns-in-Some-clause-stamp : goal.returns-in-Some-clause-stamp
returns-in-Some-clause-stamp c =
    found_stamp c.args.files.now c.args.stamp c.in-Some.file.now (sym c.get.ensures ∙ ap option_copied c.in-Some.is)

pub returns-in-None-clause-value : goal.returns-in-None-clause-value
returns-in-None-clause-value c =
    removed_meant c.args.files.now c.args.removed.now c.args.stamp (option_copied c.last_removed.result) (sym c.get.ensures ∙ ap option_copied c.in-None.is) c.last_removed.ensures

pub returns-in-None-clause-bounded : goal.returns-in-None-clause-bounded
returns-in-None-clause-bounded c =
    IfSome-copied (λ file. is_bounded file ≡ true) c.last_removed.result (λ file e. removed_bounded c.args.removed.now c.args.stamp file (sym c.last_removed.ensures ∙ e) c.requires.bounded)

pub returns-in-None-clause-stamp : goal.returns-in-None-clause-stamp
returns-in-None-clause-stamp c =
    IfSome-copied (λ file. file.stamp ≡ c.args.stamp) c.last_removed.result (λ file e. found_stamp (reverse c.args.removed.now) c.args.stamp file (sym c.last_removed.ensures ∙ e))
