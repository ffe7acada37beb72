-- The sets of statements with what their calls carry, gathered call by call.
use Rattle.std.proofs.Common.{◌≡◌, ◌↔◌, ℕ, zero, suc, ◌+◌, ◌<◌, ◌≤◌, Bool, true, false, List, [], ◌∷◌, ◌++◌, length}
use Rattle.std.proofs.Common.{get_or, slice_get, refl, sym, ap, ◌∙◌, arith, inl, inr, Option, Some, None}
use Rattle.std.proofs.lemmas.Bool.{cases_eq, cases_lt}
use Rattle.std.proofs.lemmas.List.{get_or_past}
use Rattle.sp_varsets.specs.declared.sets.Entry.{Entry}
use Rattle.sp_varsets.specs.declared.var_set.VarSet.{VarSet}
use Rattle.sp_varsets.specs.declared.walk.StatementSets.{StatementSets}
use Rattle.sp_varsets.specs.Members.{has}
use Rattle.sp_varsets.specs.Paths.{row_has, member}
use Rattle.sp_varsets.specs.Records.{Extends, IsSetOfIndex, slot_at}
use Rattle.sp_varsets.specs.Totals.{IsInTotal, IsWithin, IsEntry, AreEntries, AreRowEntries}
use Rattle.sp_varsets.proofs.BlockRows.{length_more}
use Rattle.sp_varsets.proofs.Paths.{none_past}
use Rattle.sp_varsets.proofs.StatementRecords.{extends_then, stands_more, stands_as}

-- one more entry
pub entry_at : (xs : List Entry) (e : Entry) (m : ℕ) (f : Entry) → slice_get xs m ≡ Some f
    → slice_get (xs ++ e ∷ []) m ≡ Some f
entry_at [] e m f h = absurd (let no : None ≡ Some f = h in cc)
entry_at (x ∷ xs) e zero f h = h
entry_at (x ∷ xs) e (suc m) f h = entry_at xs e m f h

pub entry_last : (xs : List Entry) (e : Entry) (m : ℕ) → m ≡ length xs → slice_get (xs ++ e ∷ []) m ≡ Some e
entry_last xs e m h = ap (λ n. slice_get (xs ++ e ∷ []) n) h ∙ last xs
  where
    last : (xs : List Entry) → slice_get (xs ++ e ∷ []) (length xs) ≡ Some e
    last [] = refl
    last (x ∷ xs) = last xs

pub totals_more : {a b : List VarSet} → Extends a b
    → (targets seen : List VarSet) (sets : StatementSets) (e : Entry) (old : List VarSet)
    → IsEntry old a sets targets seen e
    → IsEntry old b sets targets seen e
totals_more x targets seen sets e old i = record {
  targets = stands_more x i.targets;
  expressions = stands_more x i.expressions;
}

-- an entry made later, of what the pool had before
pub entry_from : {a b c : List VarSet} → Extends a b → (targets seen : List VarSet) (sets : StatementSets) (e : Entry)
    → IsWithin a sets → IsEntry b c sets targets seen e → IsEntry a c sets targets seen e
entry_from {a} {b} {c} x targets seen sets e w i = record {
  targets = stands_as i.targets (same targets sets.targets w.targets);
  expressions = stands_as i.expressions (same seen sets.expressions w.expressions);
}
  where
    same : (rows : List VarSet) (k : ℕ) → k ≤ length a → (y : ℕ) → IsInTotal b rows k sets.calls y
        ↔ IsInTotal a rows k sets.calls y
    same rows k low y = (
      λ s. elim s [
        | inl p ↦ inl (sym (x.unchanged k y low) ∙ p)
        | inr t ↦ inr
            (t.0, sym (x.unchanged sets.calls t.0 w.calls) ∙ t.1, t.2)
      ],
      λ s. elim s [
        | inl p ↦ inl (x.unchanged k y low ∙ p)
        | inr t ↦ inr (
          t.0,
          x.unchanged sets.calls t.0 w.calls ∙ t.1,
          t.2,
        )
      ],
    )

pub entries_more : (old mid new : List VarSet) (slots : List (Option StatementSets)) (targets seen : List VarSet)
    (entries : List Entry) (n : ℕ) (o : Option StatementSets) (e : Entry)
    → AreEntries old mid slots targets seen entries n → Extends mid new → o ≡ slot_at slots n
    → ((sets : StatementSets) → o ≡ Some sets → IsWithin old sets)
    → ((sets : StatementSets) → o ≡ Some sets → IsEntry mid new sets targets seen e)
    → AreEntries old new slots targets seen (entries ++ e ∷ []) (n + 1)
entries_more old mid new slots targets seen entries n o e a x at within is = record {
  count = length_more entries e ∙ ap (λ k. k + 1) a.count;
  extends = extends_then a.extends x;
  each = λ m sets low s. elim (cases_eq m n) [
    | inl here ↦
        let i : o ≡ Some sets = at ∙ (ap (λ k. slot_at slots k) (sym here) ∙ s) in
        let c = a.count in
        (e, entry_last entries e m (omega arith), entry_from a.extends targets seen sets e (within sets i) (is sets i))
    | inr away ↦
        let b = a.each m sets (omega arith) s in
        (b.0, entry_at entries e m b.0 b.1, totals_more x targets seen sets b.0 old b.2)
  ];
}

pub row_entries_more : (old mid one new : List VarSet) (targets seen : List VarSet) (entries : List Entry) (n i j : ℕ)
    (s t : VarSet) → AreRowEntries old mid targets seen entries n
    → slice_get targets n ≡ Some s → slice_get seen n ≡ Some t → Extends mid one
    → IsSetOfIndex one i (λ x. has s x ≡ true)
    → Extends one new → IsSetOfIndex new j (λ x. has t x ≡ true)
    → AreRowEntries old new targets seen (entries ++ record { targets = i; expressions = j } ∷ []) (n + 1)
row_entries_more old mid one new targets seen entries n i j s t a es et x si y tj = record {
  count = length_more entries (record { targets = i; expressions = j }) ∙ ap (λ k. k + 1) a.count;
  extends = extends_then a.extends (extends_then x y);
  each = λ m low. elim (cases_eq m n) [
    | inl here ↦
        let c = a.count in (
          record { targets = i; expressions = j },
          entry_last entries (record { targets = i; expressions = j }) m (omega arith),
          stands_as (stands_more y si) (of_row targets m s here es),
          stands_as tj (of_row seen m t here et),
        )
    | inr away ↦
        let (entry, found, its_targets, its_expressions) = a.each m (omega arith) in (
          entry,
          entry_at entries (record { targets = i; expressions = j }) m entry found,
          stands_more (extends_then x y) its_targets,
          stands_more (extends_then x y) its_expressions,
        )
  ];
}
  where
    of_row : (rows : List VarSet) (m : ℕ) (r : VarSet) → m ≡ n → slice_get rows n ≡ Some r → (z : ℕ) → (has r z ≡ true)
        ↔ (member rows m z ≡ true)
    of_row rows m r here e z =
        let is : member rows m z ≡ has r z = ap (λ k. row_has (slice_get rows k) z) here ∙ ap (λ o. row_has o z) e in
        (λ h. is ∙ h, λ h. sym is ∙ h)

-- flags
pub flag_more : (flags : List Bool) (rows : List VarSet) (b : ℕ) (s : VarSet) → length flags ≡ b
    → slice_get rows b ≡ Some s → ((c : ℕ) → c < b → get_or flags c false ≡ member rows c 0)
    → (c : ℕ) → c < b + 1 → get_or (flags ++ has s 0 ∷ []) c false ≡ member rows c 0
flag_more flags rows b s l e each c low = elim (cases_eq c b) [
  | inl here ↦ last flags c (l' here) ∙ sym (ap (λ k. row_has (slice_get rows k) 0) here ∙ ap (λ o. row_has o 0) e)
  | inr away ↦ before flags c (omega arith) ∙ each c (omega arith)
]
  where
    l' : c ≡ b → c ≡ length flags
    l' here = here ∙ sym l

    last : (flags : List Bool) (c : ℕ) → c ≡ length flags → get_or (flags ++ has s 0 ∷ []) c false ≡ has s 0
    last flags c h = ap (λ k. get_or (flags ++ has s 0 ∷ []) k false) h ∙ at flags
      where
        at : (flags : List Bool) → get_or (flags ++ has s 0 ∷ []) (length flags) false ≡ has s 0
        at [] = refl
        at (f ∷ flags) = at flags

    before : (flags : List Bool) (c : ℕ) → c < length flags
        → get_or (flags ++ has s 0 ∷ []) c false ≡ get_or flags c false
    before [] c h = absurd (omega arith)
    before (f ∷ flags) zero h = refl
    before (f ∷ flags) (suc c) h = before flags c (omega arith)

pub flags_are : (flags : List Bool) (rows : List VarSet) → length flags ≡ length rows
    → ((c : ℕ) → c < length rows → get_or flags c false ≡ member rows c 0) → (c : ℕ)
    → get_or flags c false ≡ member rows c 0
flags_are flags rows l each c = elim (cases_lt c (length rows))
    [ inl h ↦ each c h | inr h ↦ get_or_past flags c false (omega arith) ∙ sym (none_past rows c 0 h) ]
