-- A compaction leads from the start to the very state that it restates.
use Rattle.std.proofs.Common.{◌≡◌, List, [], ◌∷◌, ◌++◌, map, flat_map, None, refl, sym, ap, subst, ◌∙◌, arith}
use Rattle.std.specs.declared.cmp.Ordering.{Ordering}
use Rattle.std.specs.declared.cmp.Ordering.TheVariants.{Less, Equal, Greater}
use Rattle.std.specs.Ordering.{int_cmp, nat_cmp}
use Rattle.std.specs.List.{AllByRecursion}
use Rattle.std.specs.List.Sorted.{IsStrictlySortedBy}
use Rattle.std.specs.Cmp.{IsTotalOrder, int_cmp_total, nat_cmp_total}
use Rattle.navigation_entry.specs.declared.group.GroupInfo.{GroupInfo}
use Rattle.session_commands.specs.declared.command.SessionCommand.TheVariants.{GroupData, ActiveWindow}
use Rattle.window_state.specs.declared.tab.Tab.{Tab}
use Rattle.window_state.specs.declared.window.Window.{Window}
use Rattle.window_state.specs.declared.group_id.GroupId.{GroupId}
use Rattle.window_state.specs.Fits.{IsKeptTab, IsKeptWindow}
use Rattle.window_state.specs.Keys.{tab_key, window_key, group_key, group_cmp}
use Rattle.window_state.specs.States.{State, start, HasWindow, IsState}
use Rattle.machine_law.specs.Kind.{fold}
use Rattle.compaction_runs.specs.Runs.{Leads}
use Rattle.compaction_runs.proofs.RunLaws.{followed, leads-given, leads-flat, leads-map}
use Rattle.compaction_runs.proofs.Appended.{all-here, length-here}
use Rattle.compactor.specs.session.Compaction.{window_commands, tab_commands, compaction}
use Rattle.compactor.specs.session.SessionKind.{session_kind}
use Rattle.compactor.specs.session.Laws.AppendedRows.{behind-sorted, put-behind}
use Rattle.compactor.specs.session.Laws.WindowRuns.{with_windows, leads-window}
use Rattle.compactor.specs.session.Laws.TabRuns.{with_tabs, leads-tab}

greater : {K : Type 0} (cmp : K → K → Ordering) → IsTotalOrder cmp → (x y : K) → cmp x y ≡ Less → cmp y x ≡ Greater
greater cmp total x y is = total.antisymm y x ∙ rw is refl

-- a token before another is before it in its first number, or in its second where the first are one
group_greater : (x y : GroupId) → group_cmp x y ≡ Less → group_cmp y x ≡ Greater
group_greater x y is = by (nat_cmp x.high y.high) refl
  where
    by : (o : Ordering) → nat_cmp x.high y.high ≡ o → group_cmp y x ≡ Greater
    by Less e = let over : nat_cmp y.high x.high ≡ Greater = greater nat_cmp nat_cmp_total x.high y.high e in rw over refl
    by Equal e =
        let level : nat_cmp y.high x.high ≡ Equal = nat_cmp_total.antisymm y.high x.high ∙ rw e refl in
        let low : nat_cmp x.low y.low ≡ Less = rw e at is in
        rw level (greater nat_cmp nat_cmp_total x.low y.low low)
    by Greater e = let no = rw e at is in absurd cc

module _ (s : State) (is : IsState s) where
  windows_part : Leads session_kind start (flat_map window_commands s.windows) (with_windows s.windows)
  windows_part = leads-flat session_kind with_windows s.windows window_commands each
    where
      each : (done rest : List Window) (w : Window) → done ++ w ∷ rest ≡ s.windows → Leads session_kind (with_windows done) (window_commands w) (with_windows (done ++ w ∷ []))
      each done rest w whole =
          let few = is.kept.windows in
          let short = rw whole at (length-here done rest w) in
          leads-window done w
          (behind-sorted int_cmp window_key (greater int_cmp int_cmp_total) done rest w (subst (λ ws. IsStrictlySortedBy int_cmp (map window_key ws)) (sym whole) is.ordered.windows))
          (omega arith)
          (all-here IsKeptWindow done rest w (subst (AllByRecursion IsKeptWindow) (sym whole) is.kept.each_window)).distinct

  tabs_part : Leads session_kind (with_windows s.windows) (flat_map tab_commands s.tabs) (with_tabs s.windows s.tabs)
  tabs_part = leads-flat session_kind (with_tabs s.windows) s.tabs tab_commands each
    where
      here : (P : Tab → Type 0) (done rest : List Tab) (t : Tab) → done ++ t ∷ rest ≡ s.tabs → AllByRecursion P s.tabs → P t
      here P done rest t whole all = all-here P done rest t (subst (AllByRecursion P) (sym whole) all)

      each : (done rest : List Tab) (t : Tab) → done ++ t ∷ rest ≡ s.tabs → Leads session_kind (with_tabs s.windows done) (tab_commands t) (with_tabs s.windows (done ++ t ∷ []))
      each done rest t whole =
          let few = is.kept.tabs in
          let short = rw whole at (length-here done rest t) in
          leads-tab s.windows is.kept.windows is.ordered.windows done t
          (behind-sorted int_cmp tab_key (greater int_cmp int_cmp_total) done rest t (subst (λ ts. IsStrictlySortedBy int_cmp (map tab_key ts)) (sym whole) is.ordered.tabs))
          (omega arith)
          (here (HasWindow s.windows) done rest t whole is.kept.standing)
          (here IsKeptTab done rest t whole is.kept.each_tab)

  abbrev with_groups : List GroupInfo → State
  with_groups groups = record { tabs = s.tabs; windows = s.windows; groups = groups; active = None }

  groups_part : Leads session_kind (with_tabs s.windows s.tabs) (map (λ group. GroupData group) s.groups) (with_groups s.groups)
  groups_part = leads-map session_kind with_groups s.groups (λ group. GroupData group)
      (λ done rest group whole. ap with_groups (put-behind group_cmp group_key group done
      (behind-sorted group_cmp group_key group_greater done rest group (subst (λ gs. IsStrictlySortedBy group_cmp (map group_key gs)) (sym whole) is.ordered.groups))))

  pub folds_back : fold session_kind start (compaction s) ≡ s
  folds_back = (followed (followed (followed windows_part tabs_part) groups_part)
      (leads-given session_kind (λ window. ActiveWindow window) (λ active. record (with_groups s.groups) { active = active }) s.active (λ window _. refl))).to
