-- What is looked up in the generator's tables.
use Rattle.std.proofs.Common.{◌≡◌, ℕ, zero, suc, ◌+◌, List, [], ◌∷◌, Option, Some, None, slice_get, map, refl, sym, ap}
use Rattle.std.proofs.Common.{◌∙◌, arith}
use Rattle.std.specs.Prelude.{option_map, take}
use Rattle.std.proofs.lemmas.Option.{slice_get-map, same_Some}
use Rattle.sp_base.proofs.Facts.{sum_on}
use Rattle.sp_tree.specs.declared.checked.KindOf.TheVariants as kind
use Rattle.sp_tree.specs.declared.checked.Block as ast_b
use Rattle.sp_tree.specs.CheckedOf.{block_of}
use Rattle.sp_tree.specs.Bare.{bare_block}
use Rattle.sp_tree.specs.Around.{one_more}
use Rattle.sp_tree.specs.Cells.{first_or, sizes}
use Rattle.sp_tree.specs.Plain.{Program, Variable}
use Rattle.sp_code.specs.Scopes.{slot, slot_by, slot_in, size, field_offset}
use Rattle.sp_generate.specs.CodeTables.{slots_from, slots_of, offsets_from, offsets_by, offsets_of, outer_level}

pub first_is : (xs : List ℕ) (k n : ℕ) → slice_get xs k ≡ Some n → n ≡ first_or 0 (slice_get xs k)
first_is xs k n e = ap (first_or 0) (sym e)

pub none_is : (xs : List ℕ) (k : ℕ) → slice_get xs k ≡ None → 0 ≡ first_or 0 (slice_get xs k)
none_is xs k e = ap (first_or 0) (sym e)

slots_at : (p : Program) (x : ℕ) (vs : List Variable) (k : ℕ)
    → first_or 0 (slice_get (slots_from p x vs) k) ≡ slot_by p (x + k) (slice_get vs k)
slots_at p x [] k = refl
slots_at p x (v ∷ vs) zero = ap (λ (y : ℕ). slot_in p v.block y) (omega arith)
slots_at p x (v ∷ vs) (suc k) = slots_at p (suc x) vs k ∙ ap (λ (y : ℕ). slot_by p y (slice_get vs k)) (omega arith)

pub slot_or : (p : Program) (x : ℕ) → first_or 0 (slice_get (slots_of p) x) ≡ slot p x
slot_or p x = slots_at p 0 p.variables x ∙ ap (λ (y : ℕ). slot_by p y (slice_get p.variables x)) (omega arith)

-- one scope further out
pub more_on : (n : ℕ) (o : Option ℕ) → outer_level n (one_more o) ≡ outer_level (suc n) o
more_on n None = refl
more_on n (Some m) = ap Some (omega arith)

offset_at : (p : Program) (n : ℕ) (fs : List (List ℕ × ℕ)) (f o : ℕ)
    → slice_get (offsets_from (sizes p.kinds) n fs) f ≡ Some o → o ≡ n + field_offset p fs f
offset_at p n [] f o e = absurd (cc e)
offset_at p n (x ∷ fs) zero o e = let q : n ≡ o = cc e in omega (arith, q)
offset_at p n (x ∷ fs) (suc f) o e = omega (
  arith,
  offset_at p (n + size p x.1) fs f o e,
  sum_on (λ y. size p y.1) x (take f fs),
)

offset_is : (p : Program) (fs : List (List ℕ × ℕ)) (f o : ℕ) → slice_get (offsets_from (sizes p.kinds) 0 fs) f ≡ Some o
    → o ≡ field_offset p fs f
offset_is p fs f o e = offset_at p 0 fs f o e ∙ omega arith

pub offset_found : (p : Program) (k f o : ℕ) (os : List ℕ) (fs : List (List ℕ × ℕ))
    → slice_get (offsets_of p) k ≡ Some os → slice_get os f ≡ Some o → slice_get p.kinds k ≡ Some (kind.Fields fs)
    → o ≡ field_offset p fs f
offset_found p k f o os fs i j e =
    let there : Some (offsets_from (sizes p.kinds) 0 fs) ≡ Some os =
    ap (option_map (offsets_by (sizes p.kinds))) (sym e)
    ∙ sym (slice_get-map (offsets_by (sizes p.kinds)) p.kinds k) ∙ i in
    offset_is p fs f o (ap (λ (xs : List ℕ). slice_get xs f) (same_Some _ _ there) ∙ j)

-- the plain block of a number
pub block_at : (blocks : List ast_b.Block) (f : ℕ) (b : ast_b.Block) → slice_get blocks f ≡ Some b
    → slice_get (map bare_block (map block_of blocks)) f ≡ Some (bare_block (block_of b))
block_at blocks f b e =
    slice_get-map bare_block (map block_of blocks) f ∙ ap (option_map bare_block) (slice_get-map block_of blocks f)
    ∙ ap (λ (o : Option ast_b.Block). option_map bare_block (option_map block_of o)) e

pub no_block : (blocks : List ast_b.Block) (f : ℕ) → slice_get blocks f ≡ None
    → slice_get (map bare_block (map block_of blocks)) f ≡ None
no_block blocks f e =
    slice_get-map bare_block (map block_of blocks) f ∙ ap (option_map bare_block) (slice_get-map block_of blocks f)
    ∙ ap (λ (o : Option ast_b.Block). option_map bare_block (option_map block_of o)) e
