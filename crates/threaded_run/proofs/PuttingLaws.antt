-- Items that were put one after another, and commands that are put while an iterator gives them.
use Rattle.std.proofs.Common.{◌≡◌, List, [], ◌∷◌, ◌++◌, length, map, Some, append_assoc, refl, sym, ap, ◌∙◌, subst}
use Rattle.std.proofs.Common.{arith}
use Rattle.std.proofs.lemmas.List.{append-nil, map-append, nil_from_length}
use Rattle.std.specs.List.{AllByRecursion}
use Rattle.std.specs.Vec.Iter.{into_iter_items, into_iter_len, into_iter_steps}
use Rattle.std.specs.declared.vec.IntoIter.{IntoIter}
use Rattle.command_queue.specs.declared.queue.CommandQueue.{CommandQueue}
use Rattle.command_queue.specs.Passes.{IsIssuerOf, sent}
use Rattle.script_run.specs.Families.{RunItem}
use Rattle.threaded_run.specs.Issuers.{Puts}
use Rattle.threaded_run.specs.declared.putting.Issuer.{Issuer}

module _ (queue : CommandQueue RunItem) where
  pub puts-none : (issuer : Issuer) → IsIssuerOf queue issuer.pass → Puts queue [] issuer issuer
  puts-none issuer is = record { pass = is; sends = sym (append-nil (sent issuer.pass)); seat = refl }

  pub puts-then : (first more : List RunItem) (old mid new : Issuer) → Puts queue first old mid
      → Puts queue more mid new → Puts queue (first ++ more) old new
  puts-then first more old mid new one two = record {
    pass = two.pass;
    sends = two.sends ∙ ap (λ items. items ++ more) one.sends ∙ append_assoc (sent old.pass) first more;
    seat = two.seat ∙ one.seat;
  }

  -- commands, each as an item, some of which are put
  module _ {C Z : Type 0} (item_of : C → RunItem) (IsCommand : C → Type 0) (commands : List C) (old : Issuer) where
    pub record CommandsPut (left : IntoIter C Z) (now : Issuer) : Type 0 where
      pub counted : into_iter_len left ≡ length (into_iter_items left)
      pub are : AllByRecursion IsCommand (into_iter_items left)
      pub done : List C
      pub parts : done ++ into_iter_items left ≡ commands
      pub puts : Puts queue (map item_of done) old now

    pub no-command-put : (left : IntoIter C Z) → into_iter_items left ≡ commands → into_iter_len left ≡ length commands
        → AllByRecursion IsCommand commands → IsIssuerOf queue old.pass → CommandsPut left old
    no-command-put left all counted are is = record {
      counted = counted ∙ ap length (sym all);
      are = subst (AllByRecursion IsCommand) (sym all) are;
      done = [];
      parts = all;
      puts = puts-none old is;
    }

    pub command-put : (left rest : IntoIter C Z) (command : C) (now new : Issuer)
        → into_iter_steps left (Some command) rest → CommandsPut left now → Puts queue (item_of command ∷ []) now new
        → CommandsPut rest new
    command-put left rest command now new steps so_far put = record {
      counted = omega (arith, steps.1, so_far.counted, ap length steps.0);
      are = (subst (AllByRecursion IsCommand) steps.0 so_far.are).1;
      done = so_far.done ++ command ∷ [];
      parts = append_assoc so_far.done (command ∷ []) (into_iter_items rest)
          ∙ ap (λ items. so_far.done ++ items) (sym steps.0) ∙ so_far.parts;
      puts = subst (λ items. Puts queue items old new) (sym (map-append item_of so_far.done (command ∷ [])))
          (puts-then (map item_of so_far.done) (item_of command ∷ []) old now new so_far.puts put);
    }

    pub all-commands-put : (left : IntoIter C Z) (now : Issuer) → into_iter_len left ≡ 0 → CommandsPut left now
        → Puts queue (map item_of commands) old now
    all-commands-put left now none so_far =
        let over = nil_from_length (into_iter_items left) (sym so_far.counted ∙ none) in
        subst (λ cs. Puts queue (map item_of cs) old now)
        (sym (append-nil so_far.done) ∙ ap (λ cs. so_far.done ++ cs) (sym over) ∙ so_far.parts) so_far.puts
