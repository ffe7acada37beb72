use Rattle.std.proofs.Common.{◌≡◌, ◌∙◌, ap, sym, ◌<◌, ◌+◌, ℕ, List, [], ◌∷◌, ◌++◌, map, drop, get_or}
use Rattle.std.proofs.Common.{length, append_assoc, arith}
use Rattle.std.proofs.lemmas.Grind.{common_steps}
use Rattle.sp_base.specs.declared.place.Place.{Place}
use Rattle.sp_tree.specs.declared.named.NamedBlock.{NamedBlock}
use Rattle.sp_tree.specs.NamedOf.{block_of, statement_of}
use Rattle.sp_types.specs.TypeWalk.{bodies, statement_counted, statement_place}
use Rattle.sp_types.proofs.DeclarationRules.{drop_head, place_is}
use Rattle.sp_types.proofs.bodies.bodies.Goals as goal

-- one block more
bodies_step :
    (blocks : List NamedBlock) (i : ℕ) (b : NamedBlock) (out more all : List (Place × ℕ)) (n : ℕ) →
    b ≡ get_or blocks i b → i < length blocks → out ++ bodies (map block_of (drop i blocks)) ≡ all →
    n ≡ statement_counted 0 (statement_of b.body) → more ≡ out ++ (b.body.at, n) ∷ [] →
    more ++ bodies (map block_of (drop (i + 1) blocks)) ≡ all
bodies_step blocks i b out more all n b_is lt invariant n_is more_is =
    let rest : List (Place × ℕ) = bodies (map block_of (drop (i + 1) blocks)) in
    ap (λ (m : List (Place × ℕ)). m ++ rest) more_is ∙
    append_assoc out ((b.body.at, n) ∷ []) rest ∙
    ap (λ (at : Place). out ++ (at, n) ∷ rest) (sym (place_is b.body)) ∙
    ap (λ (k : ℕ). out ++ (statement_place (statement_of b.body), k) ∷ rest) n_is ∙
    ap (λ (x : NamedBlock). out ++ bodies (map block_of (x ∷ drop (i + 1) blocks))) b_is ∙
    ap (λ (xs : List NamedBlock). out ++ bodies (map block_of xs)) (sym (drop_head blocks i b lt)) ∙
    invariant

pub returns : goal.returns
returns c = grind (arith, common_steps)

pub loop-b-preserved : goal.loop-b-preserved
loop-b-preserved c = λ k.
    let (counted, same, more_is) = c.push.ensures k in
    let (before, same_first, n_is) = c.statement_counted-n.ensures counted in
    let (from, first_is, out_is) = c.loop-b.invariant before in (
      from,
      same ∙ same_first ∙ first_is,
      bodies_step c.args.blocks.now c.loop-b.b-index c.b-item.result c.loop-b.out.items _ _
          c.statement_counted-n.result c.b-item.is c.loop-b-test.true out_is n_is more_is,
    )
