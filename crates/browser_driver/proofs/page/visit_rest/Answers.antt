use Rattle.std.proofs.Common.{ℕ, List, ◌++◌, ◌∷◌, replicate, ap, ◌∙◌, FitsSigned, w64}
use Rattle.std.proofs.lemmas.Int.{to_z-of_z}
use Rattle.std.proofs.lemmas.Result.{IfOk-weaker}
use Rattle.browser_driver.proofs.PageLaws.{visit_rest-is}
use Rattle.browser_driver.proofs.page.visit_rest.Goals as goal

pub returns : goal.returns
returns c =
    let fits : FitsSigned w64 c.args.moment = c.ranges.moment in
    let bytes = c.to_le_bytes.result in
    let time = simp to_z-of_z at c.to_le_bytes.ensures in
    let first = c.in_ok-extend_from_slice.ensures.items in
    let second = c.in_ok-extend_from_slice-2.ensures.items in
    let third = c.in_ok-extend_from_slice-3.ensures.items in
    let before : List ℕ = replicate 20 0 in
    let behind : List ℕ = 0 ∷ 0 ∷ 0 ∷ 0 ∷ 200 ∷ replicate 11 0 in
    let all = third ∙ ap (λ xs. xs ++ behind) (second ∙ ap (λ xs. xs ++ bytes) (first
    ∙ ap (λ xs. xs ++ before) c.in_ok-rest.ensures.items)) in
    IfOk-weaker c.from_slice.result _ _
    (λ rest is. visit_rest-is c.args.moment bytes rest time (is ∙ c.as_slice.ensures.value ∙ all)) c.from_slice.ensures
