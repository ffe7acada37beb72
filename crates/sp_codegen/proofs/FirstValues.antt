-- A type's first value has no defined cell.
use Rattle.std.proofs.Common.{◌≡◌, ℕ, zero, suc, ◌<◌, List, [], ◌∷◌, ◌++◌, Some, length, refl, sym, subst, arith}
use Rattle.std.specs.Prelude.{slice_get, replicate, map}
use Rattle.sp_tree.specs.declared.checked.KindOf.{KindOf}
use Rattle.sp_tree.specs.declared.checked.KindOf.TheVariants as kind
use Rattle.sp_tree.specs.Cells.{count}
use Rattle.sp_tree.specs.Plain.{Program}
use Rattle.sp_cell.specs.declared.cell.Cell.TheVariants as cell
use Rattle.sp_meaning.specs.Model.{Channel}
use Rattle.sp_meaning.specs.Values.{Value, Undefined, values}
use Rattle.sp_code.specs.Scopes.{size}
use Rattle.sp_codegen.specs.Shapes.{leaves, leaves_all, initial_value, CellIs, CellsAre, AreBefore, Flat}
use Rattle.sp_tree.specs.TreeShape.{IsFormed}
use Rattle.sp_codegen.proofs.Shapes.{shape_same}
use Rattle.sp_codegen.proofs.Types.{initial_is, array_initial, record_initial, sized, there_is}

abbrev AllUndefined : List Value → Type 0
AllUndefined [] = Unit {0}
AllUndefined (v ∷ vs) = (v ≡ Undefined) × AllUndefined vs

all_join : (xs ys : List Value) → AllUndefined xs → AllUndefined ys → AllUndefined (xs ++ ys)
all_join [] ys h k = k
all_join (x ∷ xs) ys h k = (h.0, all_join xs ys h.1 k)

all_many : (n : ℕ) (v : Value) → AllUndefined (leaves v) → AllUndefined (leaves_all (values (replicate n v)))
all_many zero v h = tt
all_many (suc n) v h = all_join (leaves v) (leaves_all (values (replicate n v))) h (all_many n v h)

cells_undefined : (Named : Channel → ℕ → Type 0) (vs : List Value) (n : ℕ) → AllUndefined vs → length vs ≡ n
    → CellsAre Named vs (replicate n cell.Undefined)
cells_undefined Named [] zero h e = tt
cells_undefined Named [] (suc n) h e = absurd (omega (arith, e))
cells_undefined Named (v ∷ vs) zero h e = absurd (omega (arith, e))
cells_undefined Named (v ∷ vs) (suc n) h e =
    (subst (λ y. CellIs Named y cell.Undefined) (sym h.0) tt, cells_undefined Named vs n h.1 (omega (arith, e)))

module _ (p : Program) (formed : IsFormed p) where
  abbrev Blank : ℕ → Type 0
  Blank k = AllUndefined (leaves (initial_value p k))

  all_fields : (k : ℕ) → ((e : ℕ) → e < k → Blank e) → (fs : List (List ℕ × ℕ)) → AreBefore k fs
      → AllUndefined (leaves_all (values (map (λ (f : List ℕ × ℕ). initial_value p f.1) fs)))
  all_fields k ih [] b = tt
  all_fields k ih (f ∷ fs) b = all_join (leaves (initial_value p f.1))
      (leaves_all (values (map (λ (f : List ℕ × ℕ). initial_value p f.1) fs))) (ih f.1 b.0) (all_fields k ih fs b.1)

  blank_by : (k : ℕ) → ((e : ℕ) → e < k → Blank e) → (t : KindOf) → slice_get p.kinds k ≡ Some t → Blank k
  blank_by k ih kind.Integer e = subst (λ v. AllUndefined (leaves v)) (sym (initial_is p formed k kind.Integer e))
      (refl, tt)
  blank_by k ih kind.Boolean e = subst (λ v. AllUndefined (leaves v)) (sym (initial_is p formed k kind.Boolean e))
      (refl, tt)
  blank_by k ih kind.Char e = subst (λ v. AllUndefined (leaves v)) (sym (initial_is p formed k kind.Char e)) (refl, tt)
  blank_by k ih (kind.Enumeration n) e = subst (λ v. AllUndefined (leaves v))
      (sym (initial_is p formed k (kind.Enumeration n) e)) (refl, tt)
  blank_by k ih (kind.Channel ks) e = subst (λ v. AllUndefined (leaves v))
      (sym (initial_is p formed k (kind.Channel ks) e)) (refl, tt)
  blank_by k ih (kind.Array low high index element) e =
      subst (λ v. AllUndefined (leaves v)) (sym (array_initial p formed k low high index element e))
      (all_many (count low high) (initial_value p element) (ih element (formed.arrays k low high index element e).0))
  blank_by k ih (kind.Fields fs) e = subst (λ v. AllUndefined (leaves v)) (sym (record_initial p formed k fs e))
      (all_fields k ih fs (formed.fields k fs e).0)

  blank_to : (n k : ℕ) → k < n → k < length p.kinds → Blank k
  blank_to zero k l m = absurd (omega (arith, l))
  blank_to (suc n) k l m = let t = there_is p formed p.kinds k m in
      blank_by k (λ e b. blank_to n e (omega (arith, l, b)) (omega (arith, b, m))) t.0 t.1

  -- a new variable, and its cells
  pub new_flat : (Named : Channel → ℕ → Type 0) (k : ℕ) → k < length p.kinds
      → Flat p Named k (initial_value p k) (replicate (size p k) cell.Undefined)
  new_flat Named k m = (
    shape_same (initial_value p k),
    cells_undefined Named (leaves (initial_value p k)) (size p k) (blank_to (suc k) k (omega arith) m)
        (sized p formed k m).0,
  )
