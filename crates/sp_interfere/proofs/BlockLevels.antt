-- Blocks in memory and in the plain tree, and the way up from a block.
use Rattle.std.proofs.Common.{◌≡◌, ◌⊎◌, inl, inr, ℕ, zero, suc, ◌+◌, ◌-◌, ◌<◌, true, false, ◌==◌, ◌||◌, List}
use Rattle.std.proofs.Common.{map, length, Option, Some, None, slice_get, refl, sym, ap, ◌∙◌, subst, arith}
use Rattle.std.proofs.Common.{eqb-true, eq-eqb}
use Rattle.std.specs.Option.{option_map}
use Rattle.std.proofs.lemmas.Option.{slice_get-map, slice_get_within}
use Rattle.std.proofs.lemmas.Bool.{or_cases, or_left, or_right}
use Rattle.sp_tree.specs.declared.checked.Block as memory
use Rattle.sp_tree.specs.CheckedOf.{block_of}
use Rattle.sp_tree.specs.PlainChecked as p
use Rattle.sp_tree.specs.Plain.{Block, Program}
use Rattle.sp_tree.specs.Bare.{without_places, bare_block}
use Rattle.sp_tree.specs.Sets.{IsBelow}
use Rattle.sp_tree.proofs.NoBreach.{block_at}
use Rattle.sp_varsets.specs.AreSets.{HaveEarlierParents}
use Rattle.sp_interfere.specs.Rules.{parent_of, stands_in}

pub block_there : (ks : List memory.Block) (f : ℕ)
    → option_map block_of (slice_get ks f) ≡ slice_get (map block_of ks) f
block_there ks f = sym (slice_get-map block_of ks f)

pub standing : (ks : List p.Block) (n k d f : ℕ) → k < n
    → stands_in ks (n - k) (Some d) f ≡ (d == f || stands_in ks (n - (k + 1)) (parent_of (slice_get ks d)) f)
standing ks n k d f l = let e : n - k ≡ suc (n - (k + 1)) = omega arith in ap (λ m. stands_in ks m (Some d) f) e

pub standing_nowhere : (ks : List p.Block) (n f : ℕ) → stands_in ks n None f ≡ false
standing_nowhere ks zero f = refl
standing_nowhere ks (suc n) f = refl

-- a block of the tree without places is one of that with places, and the other way round
pub bare_at : (ks : List p.Block) (b : ℕ) (k : p.Block) → slice_get ks b ≡ Some k
    → slice_get (map bare_block ks) b ≡ Some (bare_block k)
bare_at ks b k e = slice_get-map bare_block ks b ∙ ap (option_map bare_block) e

module _ (c : p.Program) where
  -- what the test finds around a block, it finds further up
  abbrev Above : ℕ → ℕ → Type 0
  Above n f = (q : ℕ) → stands_in c.blocks n (Some q) f ≡ true → (m : ℕ) × IsBelow (without_places c) m q f

  around : (n d f : ℕ) → Above n f → (k : p.Block) (q : Option ℕ) → k.parent ≡ q → slice_get c.blocks d ≡ Some k
      → stands_in c.blocks n q f ≡ true → (m : ℕ) × IsBelow (without_places c) m d f
  around n d f above k None g e h = absurd (let z = standing_nowhere c.blocks n f in cc (z, h))
  around n d f above k (Some q) g e h = let r = above q h in
      (suc r.0, (bare_block k, bare_at c.blocks d k e, q, g, r.1))

  up : (n d f : ℕ) → Above n f → (o : Option p.Block) → slice_get c.blocks d ≡ o
      → stands_in c.blocks n (parent_of o) f ≡ true → (m : ℕ) × IsBelow (without_places c) m d f
  up n d f above None e h = absurd (let z = standing_nowhere c.blocks n f in cc (z, h))
  up n d f above (Some k) e h = around n d f above k k.parent refl e h

  here_or_up : (n d f : ℕ) → Above n f → (d == f ≡ true)
      ⊎ (stands_in c.blocks n (parent_of (slice_get c.blocks d)) f ≡ true) → (m : ℕ) × IsBelow (without_places c) m d f
  here_or_up n d f above (inl e) = (zero, eqb-true d f e)
  here_or_up n d f above (inr h) = up n d f above (slice_get c.blocks d) refl h

  pub stands_from : (n d f : ℕ) → stands_in c.blocks n (Some d) f ≡ true → (m : ℕ) × IsBelow (without_places c) m d f
  stands_from zero d f h = absurd (cc h)
  stands_from (suc n) d f h = here_or_up n d f (λ q k. stands_from n q f k)
      (or_cases (d == f) (stands_in c.blocks n (parent_of (slice_get c.blocks d)) f) h)

  -- and there are enough blocks for each way up
  pub stands_to : HaveEarlierParents c → (m n d f : ℕ) → d < n → IsBelow (without_places c) m d f
      → stands_in c.blocks n (Some d) f ≡ true
  stands_to rises m zero d f l h = absurd (omega arith)
  stands_to rises zero (suc n) d f l h = or_left (d == f) _ (eq-eqb d f h)
  stands_to rises (suc m) (suc n) d f l (k, e, q, o, rest) =
      let b = block_at c.blocks d k e in
      let p : b.0.parent ≡ Some q = ap (λ (z : Block). z.parent) b.2 ∙ o in
      let low = rises d b.0 q b.1 p in
      let further = stands_to rises m n q f (omega arith) rest in
      or_right (d == f) _ (subst (λ z. stands_in c.blocks n (parent_of z) f ≡ true) (sym b.1)
      (subst (λ z. stands_in c.blocks n z f ≡ true) (sym p) further))

  pub within : (d : ℕ) (k : p.Block) → slice_get c.blocks d ≡ Some k → d < length c.blocks
  within d k e = slice_get_within c.blocks d k e
