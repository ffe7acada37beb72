-- The local variables of a block, one after the other.
use Rattle.std.proofs.Common.{◌≡◌, ℕ, zero, suc, ◌<◌, ◌-◌, ◌+◌, arith, Option, Some, None, slice_get, map, length, List}
use Rattle.std.proofs.Common.{[], ◌∷◌, ◌++◌, Bool, true, false, ◌&&◌, ◌==◌, if◌then◌else◌, refl, sym, ap, ◌∙◌}
use Rattle.std.proofs.Common.{append_assoc}
use Rattle.sp_tree.specs.Cells.{variables_of}
use Rattle.sp_tree.specs.Plain.{Program, Variable}
use Rattle.sp_tree.specs.Around.{OfBlock, parent_of, scopes_by}
use Rattle.sp_tree.specs.Bare.{bare_block}
use Rattle.sp_tree.specs.CheckedOf.{block_of}
use Rattle.sp_tree.specs.declared.checked.Block as checked
use Rattle.sp_code.specs.Scopes.{is_local, locals_among}
use Rattle.std.proofs.lemmas.List.{map_push, append-nil}
use Rattle.sp_generate.specs.declared.levels.Scope.{Scope}
use Rattle.sp_generate.specs.declared.levels.Scope.TheVariants as scope
use Rattle.sp_generate.specs.Views.{scope_of, scopes}

-- the first variable is one or not
abbrev chosen : ℕ → Bool → Bool → List ℕ → List ℕ
chosen x c l others = if c && l then x ∷ others else others

kept : (b x : ℕ) (v : Variable) (vs : List Variable) (c l : Bool) → c ≡ (v.block == b) → l ≡ is_local v.role
    → locals_among (variables_of b x (v ∷ vs)) ≡ chosen x c l (locals_among (variables_of b (suc x) vs))
kept b x v vs true l ec el =
    ap (λ k. locals_among (if k then (x, v) ∷ variables_of b (suc x) vs else variables_of b (suc x) vs)) (sym ec)
    ∙ ap (λ k. if k then x ∷ locals_among (variables_of b (suc x) vs) else locals_among (variables_of b (suc x) vs))
    (sym el)
kept b x v vs false l ec el = ap (λ k. locals_among
    (if k then (x, v) ∷ variables_of b (suc x) vs else variables_of b (suc x) vs)) (sym ec)

pub own_step : (b x : ℕ) (v : Variable) (vs : List Variable) → (v.block == b && is_local v.role) ≡ true
    → locals_among (variables_of b x (v ∷ vs)) ≡ x ∷ locals_among (variables_of b (suc x) vs)
own_step b x v vs e = kept b x v vs (v.block == b) (is_local v.role) refl refl
    ∙ ap (λ k. if k then x ∷ locals_among (variables_of b (suc x) vs) else locals_among (variables_of b (suc x) vs)) e

pub other_step : (b x : ℕ) (v : Variable) (vs : List Variable) → (v.block == b && is_local v.role) ≡ false
    → locals_among (variables_of b x (v ∷ vs)) ≡ locals_among (variables_of b (suc x) vs)
other_step b x v vs e = kept b x v vs (v.block == b) (is_local v.role) refl refl
    ∙ ap (λ k. if k then x ∷ locals_among (variables_of b (suc x) vs) else locals_among (variables_of b (suc x) vs)) e

-- the scopes around a block, one further out
pub scope_step : (p : Program) (b n m : ℕ) → n < m
    → scopes_by p (m - n) (Some b) ≡ OfBlock b ∷ scopes_by p (m - (n + 1)) (parent_of (slice_get p.blocks b))
scope_step p b n m h = let e : m - n ≡ suc (m - (n + 1)) = omega arith in ap (λ (k : ℕ). scopes_by p k (Some b)) e

pub scope_none : (p : Program) (n : ℕ) → scopes_by p n None ≡ []
scope_none p zero = refl
scope_none p (suc n) = refl

pub scope_over : (p : Program) (n : ℕ) (at : Option ℕ) → scopes_by p (n - n) at ≡ []
scope_over p n at = let e : n - n ≡ 0 = omega arith in ap (λ (k : ℕ). scopes_by p k at) e

pub blocks_count : (xs : List checked.Block) → length (map bare_block (map block_of xs)) ≡ length xs
blocks_count [] = refl
blocks_count (x ∷ xs) = ap suc (blocks_count xs)

-- one more scope in the list
pub scope_on : (p : Program) (xs ys : List Scope) (b n m : ℕ) (at next : Option ℕ) → n < m → at ≡ Some b
    → ys ≡ xs ++ scope.Block b ∷ [] → next ≡ parent_of (slice_get p.blocks b)
    → scopes ys ++ scopes_by p (m - (n + 1)) next ≡ scopes xs ++ scopes_by p (m - n) at
scope_on p xs ys b n m at next h ea ey en =
    (λ i. scopes (ey i) ++ scopes_by p (m - (n + 1)) (en i))
    ∙ ap (λ zs. zs ++ scopes_by p (m - (n + 1)) (parent_of (slice_get p.blocks b)))
    (map_push scope_of xs (scope.Block b))
    ∙ append_assoc (scopes xs) (OfBlock b ∷ []) (scopes_by p (m - (n + 1)) (parent_of (slice_get p.blocks b)))
    ∙ ap (λ zs. scopes xs ++ zs) (sym (scope_step p b n m h))
    ∙ ap (λ (o : Option ℕ). scopes xs ++ scopes_by p (m - n) o) (sym ea)

pub scope_end : (p : Program) (xs : List Scope) (n : ℕ) (at : Option ℕ) → at ≡ None
    → scopes xs ≡ scopes xs ++ scopes_by p n at
scope_end p xs n at e = sym (append-nil (scopes xs)) ∙ ap (λ zs. scopes xs ++ zs) (sym (scope_none p n))
    ∙ ap (λ (o : Option ℕ). scopes xs ++ scopes_by p n o) (sym e)
