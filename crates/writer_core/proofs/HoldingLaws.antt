-- What a journal that writes on has taken, and what its disk holds at rest.
use Rattle.std.proofs.Common.{◌≡◌, ℕ, ◌≤◌, ◌<◌, ◌^◌, Bool, true, List, [], ◌∷◌, ◌++◌, length, Option, Some, None, option_map, refl, sym, ap, ◌∙◌, subst, inl, arith}
use Rattle.std.proofs.lemmas.List.{append-nil, take_all}
use Rattle.machine_law.specs.Kind.{Kind, fold}
use Rattle.session_disk.specs.Moments.{Standing, Moment, IsAtRest, IsNewestBelow, safe_file}
use Rattle.session_disk.specs.Images.{Image, MayGo, MayLeave, IsImage, as_it_reads}
use Rattle.session_disk.specs.Histories.{History}
use Rattle.file_rotation.specs.Recovery.{Recovers, IsGood}
use Rattle.fresh_files.specs.Fresh.{fresh, frames}
use Rattle.fresh_files.specs.Lay.{IsAbove}
use Rattle.fresh_files.proofs.CommandLaws.{OfMachine}
use Rattle.log_writer.specs.Waiting.{Waiting}
use Rattle.log_writer.specs.Account.{Account}
use Rattle.log_writer.specs.Journals.{JournalHolds}
use Rattle.log_writer.specs.declared.journal.Present.{Present}
use Rattle.log_writer.proofs.JournalLaws.{keeps_now}
use Rattle.log_writer.proofs.ForeignLaws.{foreign_stands}
use Rattle.writer_core.specs.Course.{IsTied}
use Rattle.writer_core.specs.Jobs.{commands}
use Rattle.writer_core.specs.Working.{Beginning, Continues, HoldsCommands}
use Rattle.writer_core.specs.declared.item.Job.{Job}
use Rattle.writer_core.proofs.CreationLaws.{creations_few}
use Rattle.writer_core.proofs.JobLaws.{length-commands}

-- the files of a disk as they read are one of its images
image_here : (m : Moment) → IsAtRest m → (s : ℕ) (file : Option Standing) → m.standing s ≡ file → MayLeave m s (option_map (λ f. f.bytes) file)
image_here m rest s None e = subst MayGo (sym e) tt
image_here m rest s (Some file) e =
    inl (
      file,
      e,
      record {
        kept = length file.bytes;
        synced_kept = omega (arith, (rest.files s file e).0);
        within = omega arith;
        prefix = sym (take_all (length file.bytes) file.bytes (omega arith));
      },
    )

reading_is_image : (m : Moment) → IsAtRest m → IsImage m (as_it_reads m)
reading_is_image m rest = λ s. image_here m rest s (m.standing s) refl

-- where all commands are told, the image that reads to some prefix of them reads to all
all_recovered : {S C : Type 0} (kind : Kind S C) (first : S) (q : List C) (told : ℕ) (image : Image) → told ≡ length q → IsGood kind first q told image → Recovers kind image (fold kind first q)
all_recovered {S} {C} kind first q told image e g =
    subst (λ (x : List C). Recovers kind image (fold kind first x)) (take_all g.count q (omega (arith, e, g.holds_told))) g.recovers

-- all that is kept is in a file, where nothing waits
file_bytes : {S C : Type 0} (kind : Kind S C) (m : Moment) (present : Present S) (pending : List ℕ) (a : Account S C) → (h : JournalHolds kind m present pending a) → a.late ≡ 0 → h.file.bytes ≡ fresh kind a.base ++ frames kind a.kept
file_bytes {S} {C} kind m present pending a h none =
    let waits : h.waiting ≡ [] = nothing_waits h.waiting (omega (arith, none, h.late)) in
    let all : a.kept ≡ h.done = h.parts ∙ ap (λ (x : List C). h.done ++ x) waits ∙ append-nil h.done in
    h.bytes ∙ ap (λ (x : List C). fresh kind a.base ++ frames kind x) (sym all)
  where
    nothing_waits : (cs : List C) → length cs ≤ 0 → cs ≡ []
    nothing_waits [] h = refl
    nothing_waits (c ∷ cs) h = absurd (omega (arith, h))

safe_standing : (file : Standing) (bytes : List ℕ) → file.bytes ≡ bytes → file.synced ≡ length file.bytes → file.settled ≡ true → file ≡ safe_file bytes
safe_standing file bytes e f g =
    let length_known : file ≡ record { bytes = file.bytes; synced = length file.bytes; settled = file.settled } = ap (λ (n : ℕ). record { bytes = file.bytes; synced = n; settled = file.settled }) f in
    let settled_known : file ≡ safe_file file.bytes = length_known ∙ ap (λ (t : Bool). record { bytes = file.bytes; synced = length file.bytes; settled = t }) g in
    subst (λ (x : List ℕ). file ≡ safe_file x) e settled_known

-- a stamp that is tied is above all of the entry
above_entry : (m : Moment) (greatest : Option ℕ) (made stamp : ℕ) → IsNewestBelow m.standing None greatest → IsTied greatest made stamp → IsAbove stamp m
above_entry m None made stamp newest tied s there = absurd (newest s there tt)
above_entry m (Some greatest) made stamp newest tied s there = omega (arith, newest.greatest s there tt, tied.0)

module _ {S C : Type 0} (kind : Kind S C) where
  -- how many commands a journal that writes on has taken
  pub count_written : (b : Beginning S) (now : History) (present : Present S) (w : Waiting C) (done : List (Job C)) → length done < 2 ^ 61 → Continues kind b now present w done → present.count ≡ length (commands done)
  count_written b now present w done few on = omega (arith, few, on.runs.keeps.count, length-commands done)

  -- A journal that writes on holds all commands, where its disk is at rest, nothing waits and all are told.
  pub holds_all : OfMachine kind → (b : Beginning S) (now : History) (present : Present S) (w : Waiting C) (done : List (Job C)) → length done < 2 ^ 62 → (on : Continues kind b now present w done) →
      IsAtRest now.now → on.account.late ≡ 0 → present.told ≡ present.count → HoldsCommands kind b now done
  holds_all of_machine b now present w done few on rest none_late known =
      let runs = on.runs in
      let all : now.now.told ≡ length (commands done) = omega (arith, few, known, runs.keeps.told, runs.keeps.count, length-commands done) in
      let here = rest.files present.stamp runs.holds.file runs.holds.stands in
      record {
        rest = rest;
        told = all;
        account = on.account;
        is = on.is;
        made = on.made;
        few = creations_few kind of_machine b done on.account on.some on.is;
        stamp = present.stamp;
        above = above_entry b.entry.now b.greatest on.account.made present.stamp on.newest on.tied;
        file = runs.holds.stands ∙ ap Some (safe_standing runs.holds.file _ (file_bytes kind now.now present w.bytes on.account runs.holds none_late) here.0 here.1);
        others = λ s other ne e. (runs.holds.others s other ne e).foreign;
        foreign = foreign_stands kind b.entry now b.first (commands done) present w.bytes on.account runs.holds on.left;
        reads = all_recovered kind b.first (commands done) now.now.told (as_it_reads now.now) all
            (keeps_now kind now.now present w on.account b.first (commands done) runs (as_it_reads now.now) (reading_is_image now.now rest));
      }
