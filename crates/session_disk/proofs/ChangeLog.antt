-- Each change that is written down leads to the moment that the call makes, and undoing it leads back.
use Rattle.std.proofs.Common.{◌≡◌, ℕ, ◌+◌, ◌-◌, max, nat_eq, true, false, not, List, [], ◌∷◌, ◌++◌, map, length, take, Option, Some, None, IsNone, IfSome, option_map, refl, sym, ap, Vec, Global, arith}
use Rattle.std.proofs.lemmas.Bool.Decides.{nat_tests}
use Rattle.std.proofs.lemmas.List.{reverse-append, length-append, map-append}
use Rattle.session_disk.proofs.DiskFiles.{settled_from_stamps}
use Rattle.std.proofs.Math.Seq.{take-append_seam}
use Rattle.std.specs.List.{list_any, last_or}
use Rattle.session_disk.specs.declared.memory.file_list.DiskFile.{DiskFile}
use Rattle.session_disk.specs.declared.memory.change_log.Undo.{Undo}
use Rattle.session_disk.specs.declared.memory.change_log.Undo.TheVariants.{Created, Appended, Synced, Settled, Told}
use Rattle.session_disk.specs.declared.memory.change_log.Undo.TheVariants as change
use Rattle.session_disk.specs.DiskFiles.{standing_of, standing_in, removed_of, is_listed, unsettled_stamps}
use Rattle.session_disk.specs.Histories.{after}
use Rattle.session_disk.specs.Moments.{Moment, Standing, Removed, with_file, with_change, settled_file, after_create, after_append, after_sync, after_remove, after_settle, after_tell}
use Rattle.session_disk.specs.ChangeLog.{undo, past_of, unsettle, moment_of, history_from}
use Rattle.session_disk.proofs.DiskFiles.{settled_from_stamps}

-- one more change: if undoing it leads back, the history is one step later
history_after : (step : Moment → Moment) (change : Undo) (log : List Undo) (m : Moment) → undo change (step m) ≡ m → history_from (log ++ change ∷ []) (step m) ≡ after step (history_from log m)
unfolding past_of
history_after step change log m back =
    let same = reverse-append log (change ∷ []) in
    rw (same, back)

-- what stood under a stamp, put back
back_again : (stamp : ℕ) (file changed : Option Standing) (standing : ℕ → Option Standing) → standing stamp ≡ file → with_file stamp file (with_file stamp changed standing) ≡ standing
back_again stamp file changed standing e = λ i s. at_stamp s i
  where
    at_stamp : (s : ℕ) → with_file stamp file (with_file stamp changed standing) s ≡ standing s
    at_stamp s = grind (arith, nat_tests)

-- two changes of one file, the second of which undoes the first
changed_back : (back change : Standing → Standing) (stamp : ℕ) (m : Moment) → ((file : Standing) → m.standing stamp ≡ Some file → back (change file) ≡ file) → with_change back stamp (with_change change stamp m) ≡ m
changed_back back change stamp m h = λ i. record m { standing = λ s. at_stamp s i }
  where
    there : (file : Option Standing) → m.standing stamp ≡ file → option_map back (option_map change file) ≡ file
    there None e = refl
    there (Some file) e = ap Some (h file e)

    at_stamp : (s : ℕ) → (with_change back stamp (with_change change stamp m)).standing s ≡ m.standing s
    at_stamp s =
        let same = there (m.standing stamp) refl in
        grind (arith, nat_tests)

none_from : {X : Type 0} (o : Option X) → IsNone o → o ≡ None
none_from None h = refl
none_from (Some x) h = cc

undo-create : (stamp : ℕ) (m : Moment) → IsNone (m.standing stamp) → undo (Created stamp) (after_create stamp m) ≡ m
unfolding undo
undo-create stamp m h =
    let count : m.creates + 1 - 1 ≡ m.creates = omega arith in
    λ i. record m { standing = back_again stamp None (Some (record { bytes = []; synced = 0; settled = false })) m.standing (none_from (m.standing stamp) h) i; creates = count i }

cut_back : {X : Type 0} (xs more : List X) → take (length (xs ++ more) - length more) (xs ++ more) ≡ xs
cut_back xs more =
    let n : length (xs ++ more) - length more ≡ length xs = omega (arith, length-append xs more) in
    rw n (take-append_seam xs more)

undo-append : (stamp : ℕ) (bytes : List ℕ) (m : Moment) → undo (Appended stamp (length bytes)) (after_append stamp bytes m) ≡ m
unfolding undo
undo-append stamp bytes m = changed_back (λ file. record file { bytes = take (length file.bytes - length bytes) file.bytes }) (λ file. record file { bytes = file.bytes ++ bytes }) stamp m (λ file e. ap (λ cut. record file { bytes = cut }) (cut_back file.bytes bytes))

undo-sync : (stamp reached before : ℕ) (m : Moment) → ((file : Standing) → m.standing stamp ≡ Some file → before ≡ file.synced) → undo (Synced stamp before) (after_sync stamp reached m) ≡ m
unfolding undo
undo-sync stamp reached before m h = changed_back (λ file. record file { synced = before }) (λ file. record file { synced = max file.synced reached }) stamp m (λ file e. ap (λ n. record file { synced = n }) (h file e))

undo-tell : (n : ℕ) (m : Moment) → undo (Told m.told) (after_tell n m) ≡ m
unfolding undo
undo-tell n m = refl

last_or-append : {X : Type 0} (o : Option X) (xs : List X) (x : X) → last_or o (xs ++ x ∷ []) ≡ Some x
last_or-append o [] x = refl
last_or-append o (y ∷ xs) x = last_or-append (Some y) xs x

undo-remove : (stamp : ℕ) (file : Standing) (m : Moment) → m.standing stamp ≡ Some file → undo (change.Removed file.settled) (after_remove stamp m) ≡ m
unfolding undo
undo-remove stamp file m e =
    let gone : Removed = record { stamp = stamp; bytes = file.bytes; synced = file.synced } in
    rw (e, last_or-append None m.removed gone) (λ i. record m { standing = back_again stamp (Some file) None m.standing e i; removed = cut_back m.removed (gone ∷ []) i })

unsettled_back : (stamps : List ℕ) (stamp : ℕ) (file : Option Standing) → ((x : Standing) → file ≡ Some x → x.settled ≡ not (list_any (nat_eq stamp) stamps)) → option_map (unsettle stamps stamp) (option_map settled_file file) ≡ file
unsettled_back stamps stamp None h = refl
unsettled_back stamps stamp (Some file) h = λ i. Some (record file { settled = sym (h file refl) i })

undo-settle : (unsettled : Vec ℕ Global) (removed : Vec DiskFile Global) (m : Moment) → m.removed ≡ map removed_of removed.items → ((s : ℕ) (file : Standing) → m.standing s ≡ Some file → file.settled ≡ not (list_any (nat_eq s) unsettled.items)) → undo (Settled unsettled removed) (after_settle m) ≡ m
unfolding undo
undo-settle unsettled removed m e h =
    λ i. record m { standing = λ s. unsettled_back unsettled.items s (m.standing s) (h s) i; removed = sym e i }

-- The history after each call, from what the call did to the lists.
module _ (files files' : List DiskFile) (removed : List DiskFile) (told creates : ℕ) (log log' : List Undo) where
  pub history-create : (stamp creates' : ℕ) → IsNone (standing_in files stamp) → standing_in files' ≡ with_file stamp (Some (record { bytes = []; synced = 0; settled = false })) (standing_in files) → creates' ≡ creates + 1 → log' ≡ log ++ Created stamp ∷ [] → history_from log' (moment_of files' removed told creates') ≡ after (after_create stamp) (history_from log (moment_of files removed told creates))
  history-create stamp creates' absent stands count written =
      let m : Moment = moment_of files removed told creates in
      rw (stands, count, written) (history_after (after_create stamp) (Created stamp) log m (undo-create stamp m absent))

  pub history-append : (stamp : ℕ) (bytes : List ℕ) → standing_in files' ≡ with_file stamp (option_map (λ (file : Standing). record file { bytes = file.bytes ++ bytes }) (standing_in files stamp)) (standing_in files) → log' ≡ log ++ Appended stamp (length bytes) ∷ [] → history_from log' (moment_of files' removed told creates) ≡ after (after_append stamp bytes) (history_from log (moment_of files removed told creates))
  history-append stamp bytes stands written =
      let m : Moment = moment_of files removed told creates in
      rw (stands, written) (history_after (after_append stamp bytes) (Appended stamp (length bytes)) log m (undo-append stamp bytes m))

  pub history-sync : (stamp reached before : ℕ) → IfSome (standing_in files stamp) (λ file. before ≡ file.synced) → standing_in files' ≡ with_file stamp (option_map (λ (file : Standing). record file { synced = max file.synced reached }) (standing_in files stamp)) (standing_in files) → log' ≡ log ++ Synced stamp before ∷ [] → history_from log' (moment_of files' removed told creates) ≡ after (after_sync stamp reached) (history_from log (moment_of files removed told creates))
  history-sync stamp reached before was stands written =
      let m : Moment = moment_of files removed told creates in
      rw (stands, written) (history_after (after_sync stamp reached) (Synced stamp before) log m (undo-sync stamp reached before m (λ file e. rw e at was)))

  pub history-remove : (stamp : ℕ) (file : DiskFile) (removed' : List DiskFile) → file.stamp ≡ stamp → standing_in files stamp ≡ Some (standing_of file) → standing_in files' ≡ with_file stamp None (standing_in files) → removed' ≡ removed ++ file ∷ [] → log' ≡ log ++ change.Removed file.settled ∷ [] → history_from log' (moment_of files' removed' told creates) ≡ after (after_remove stamp) (history_from log (moment_of files removed told creates))
  history-remove stamp file removed' same stood stands gone written =
      let m : Moment = moment_of files removed told creates in
      let step = history_after (after_remove stamp) (change.Removed file.settled) log m (undo-remove stamp (standing_of file) m stood) in
      let list = map-append removed_of removed (file ∷ []) in
      rw (stands, gone, written, list, same, stood) (rw stood at step)

  pub history-settle : (unsettled : Vec ℕ Global) (before : Vec DiskFile Global) → is_listed files ≡ true → ((stamp : ℕ) → standing_in files' stamp ≡ option_map settled_file (standing_in files stamp)) → before.items ≡ removed → unsettled.items ≡ unsettled_stamps files → log' ≡ log ++ Settled unsettled before ∷ [] → history_from log' (moment_of files' [] told creates) ≡ after after_settle (history_from log (moment_of files removed told creates))
  history-settle unsettled before listed stands were names written =
      let m : Moment = moment_of files removed told creates in
      let back = undo-settle unsettled before m (ap (map removed_of) (sym were)) (λ s file e. rw names (settled_from_stamps files s file listed e)) in
      let settled : standing_in files' ≡ (λ s. option_map settled_file (standing_in files s)) = λ i s. stands s i in
      rw (settled, written) (history_after after_settle (Settled unsettled before) log m back)

  pub history-tell : (n : ℕ) → log' ≡ log ++ Told told ∷ [] → history_from log' (moment_of files removed n creates) ≡ after (after_tell n) (history_from log (moment_of files removed told creates))
  history-tell n written =
      let m : Moment = moment_of files removed told creates in
      rw written (history_after (after_tell n) (Told told) log m (undo-tell n m))
