-- The code of `x := 6; write(x * 7)` breaks no rule, and so is sound. V1, V4 and V9 are looked at here, the others in
-- `Rows` and `AnswerForks`.
use Rattle.std.proofs.Common.{◌≡◌, ◌⊎◌, inl, inr, ⊎_elim, ℕ, zero, suc, ◌+◌, ◌≤◌, ◌<◌, List, [], ◌∷◌, Option, Some}
use Rattle.std.proofs.Common.{None, Bool, true, false, ◌&&◌, refl, ap, subst, arith}
use Rattle.std.specs.Prelude.{slice_get}
use Rattle.std.proofs.lemmas.Bool.{and_parts}
use Rattle.std.proofs.lemmas.Option.{same_Some}
use Rattle.sp_base.proofs.Facts.{not_true_and_false}
use Rattle.sp_tree.specs.Interference.{IsMember}
use Rattle.sp_code.specs.declared.instr.Instr.{Instr}
use Rattle.sp_code.specs.declared.instr.Instr.TheVariants as i
use Rattle.sp_code.specs.declared.code.Layout.{Layout}
use Rattle.sp_code.specs.declared.code.ChildTable.{ChildTable}
use Rattle.sp_verify_rules.specs.Areas.{Area, Body, instr_at, child_of, table_at, table_named, leads_by}
use Rattle.sp_verify_rules.specs.Shapes.{Shape}
use Rattle.sp_verify_rules.specs.Reach.{nexts}
use Rattle.sp_verify_rules.specs.NameRules.{names_there, level_fits, ends_well, in_range, names_well, loops_well}
use Rattle.sp_verify_rules.specs.NameRules.{has_sizes}
use Rattle.sp_verify_rules.specs.NameRules.{is_program, Declared, InLayout, OfChild, IsBefore, declaration_at, LiesIn}
use Rattle.sp_verify_rules.specs.NameRules.{BreaksV1}
use Rattle.sp_verify_rules.specs.NameRules.{NotThere, BlocksApart, WithoutProgram, Twice, SizesDiffer, TableUnnamed}
use Rattle.sp_verify_rules.specs.NameRules.{TableIndexed}
use Rattle.sp_verify_rules.specs.NameRules.{TableUnknown, LevelDiffers, InTwo, EndsWrong, OutOfRange, NamedWrong}
use Rattle.sp_verify_rules.specs.NameRules.{LoopsWrong}
use Rattle.sp_verify_rules.specs.Rules.{BreaksV4, OtherLength, NoRoom, SendsAt, BreaksV9, ComesBack, IsFreePath}
use Rattle.sp_verify_rules.specs.Rules.{free_nexts}
use Rattle.sp_verify_rules.proofs.Rows.{main, product_as_int, only, keeps_v2, keeps_v3, keeps_v5}
use Rattle.sp_verify_rules.specs.Effects.{IsCalled}
use Rattle.sp_verify_rules.specs.Verdict.{V1, V2, V3, V4, V5, V6, V7, V8, V9, IsVerified}

-- a test of each instruction
abbrev pub all_instrs : (Option Instr → Bool) → List Instr → Bool
all_instrs f [] = f None
all_instrs f (x ∷ xs) = f (Some x) && all_instrs f xs

pub each_instr : (f : Option Instr → Bool) (xs : List Instr) → all_instrs f xs ≡ true → (p : ℕ)
    → f (slice_get xs p) ≡ true
each_instr f [] e p = e
each_instr f (x ∷ xs) e zero = (and_parts (f (Some x)) (all_instrs f xs) e).0
each_instr f (x ∷ xs) e (suc p) = each_instr f xs (and_parts (f (Some x)) (all_instrs f xs) e).1 p

-- it has one layout
one_layout : (P : Layout → Type 0) → P main → (j : ℕ) (l : Layout) → slice_get product_as_int.layouts j ≡ Some l → P l
one_layout P h zero l e = subst P (same_Some main l e) h
one_layout P h (suc j) l e = absurd (cc e)

misplaced : (well : Area → Option Instr → Bool) → all_instrs (well (Body 0)) product_as_int.instrs ≡ true → (p : ℕ)
    → (a : Area)
    × LiesIn product_as_int p a × (well a (instr_at product_as_int p) ≡ false) → ⊥
misplaced well e p (a, l, f) = not_true_and_false (well a (instr_at product_as_int p))
    (only (λ a. well a (instr_at product_as_int p) ≡ true) (each_instr (well (Body 0)) product_as_int.instrs e p)
    a l.0) f

-- no instruction goes on past the last one
ends_there : (p : ℕ) → 9 ≤ p + 1 → IsMember (p + 1) (nexts p (instr_at product_as_int p)) → ⊥
ends_there zero h m = omega (arith, h)
ends_there (suc zero) h m = omega (arith, h)
ends_there (suc (suc zero)) h m = omega (arith, h)
ends_there (suc (suc (suc zero))) h m = omega (arith, h)
ends_there (suc (suc (suc (suc zero)))) h m = omega (arith, h)
ends_there (suc (suc (suc (suc (suc zero))))) h m = omega (arith, h)
ends_there (suc (suc (suc (suc (suc (suc zero)))))) h m = omega (arith, h)
ends_there (suc (suc (suc (suc (suc (suc (suc zero))))))) h m = omega (arith, h)
ends_there (suc (suc (suc (suc (suc (suc (suc (suc zero)))))))) h m = m
ends_there (suc (suc (suc (suc (suc (suc (suc (suc (suc p))))))))) h m = m

declared_twice : (d : Declared) (x p : ℕ) → declaration_at product_as_int d ≡ Some (x, p) → (x < 2)
    ⊎ ((e : Declared) × (q : ℕ) × IsBefore e d × (declaration_at product_as_int e ≡ Some (x, q))) → ⊥
declared_twice (InLayout zero zero) x p e (inl h) = let s : 2 ≡ x = ap (λ (z : ℕ
    × ℕ). z.0) (same_Some (2, 0) (x, p) e) in omega (arith, h, s)
declared_twice (InLayout zero zero) x p e (inr (InLayout j k, q, inl h, f)) = omega (arith, h)
declared_twice (InLayout zero zero) x p e (inr (InLayout j k, q, inr h, f)) = let l = h.1 in omega (arith, l)
declared_twice (InLayout zero zero) x p e (inr (OfChild t k, q, h, f)) = h
declared_twice (InLayout zero (suc k)) x p e h = cc e
declared_twice (InLayout (suc j) k) x p e h = cc e
declared_twice (OfChild t k) x p e h = cc e

pub keeps_v1 : (p : ℕ) → BreaksV1 product_as_int p → ⊥
keeps_v1 p (NotThere (inl e)) = not_true_and_false (names_there product_as_int (instr_at product_as_int p))
    (each_instr (names_there product_as_int) product_as_int.instrs refl p) e
keeps_v1 p (NotThere (inr m)) = ⊎_elim
    (λ (l, (j, there), entry_is). let e = one_layout (λ l. l.entry ≡ p → ⊥)
    (λ h. let past = m.past in omega (arith, h, past)) j l there in e entry_is)
    (λ (_, _, _, there, _). cc there) m.of
keeps_v1 p (BlocksApart (zero, l, e, s, inl (zero, m, f, n, b))) = n refl
keeps_v1 p (BlocksApart (zero, l, e, s, inl (suc k, m, f, n, b))) = cc f
keeps_v1 p (BlocksApart (zero, l, e, s, inr h)) = not_true_and_false (leads_by 1 product_as_int.layouts (Some l))
    (one_layout (λ l. leads_by 1 product_as_int.layouts (Some l) ≡ true) refl zero l e) h
keeps_v1 p (BlocksApart (suc j, l, e, s, h)) = cc e
keeps_v1 p (WithoutProgram (inl h)) = cc h.0
keeps_v1 p (WithoutProgram (inr (l, (j, there), _, _, differs))) = not_true_and_false (is_program l)
    (one_layout (λ l. is_program l ≡ true) refl j l there) differs
keeps_v1 p (Twice (d, x, declared, again)) = declared_twice d x p declared again
keeps_v1 p (SizesDiffer (l, (j, there), _, differs)) = not_true_and_false (has_sizes l)
    (one_layout (λ l. has_sizes l ≡ true) refl j l there) differs
keeps_v1 p (TableUnnamed h) = cc h.2
keeps_v1 p (TableIndexed (t, q, inl (_, (_, _, is_child, _, _)))) = cc is_child
keeps_v1 p (TableIndexed (t, q, inr (_, (_, _, is_child, _, _, _)))) = cc is_child
keeps_v1 p (TableUnknown u) = cc u.is_child
keeps_v1 p (LevelDiffers h) = misplaced (level_fits product_as_int) refl p h
keeps_v1 p (InTwo (a, l, inl (b, m, n))) = n (only (λ a. a ≡ b) (only (λ b. Body 0 ≡ b) refl b m.0) a l.0)
keeps_v1 p (InTwo (a, l, inr h)) = ends_there p h.1 h.0
keeps_v1 p (EndsWrong h) = misplaced (ends_well product_as_int) refl p h
keeps_v1 p (OutOfRange h) = misplaced (in_range product_as_int) refl p h
keeps_v1 p (NamedWrong h) = misplaced (names_well product_as_int) refl p h
keeps_v1 p (LoopsWrong h) = misplaced (loops_well product_as_int) refl p h

abbrev sends_not : Option Instr → Bool
sends_not (Some (i.Send k)) = false
sends_not o = true

no_send : (p k n : ℕ) → SendsAt product_as_int p k n → ⊥
no_send p k n (_, _, _, is_send, _) = not_true_and_false (sends_not (instr_at product_as_int p))
    (each_instr sends_not product_as_int.instrs refl p)
    (ap sends_not is_send)

pub keeps_v4 : (p : ℕ) → BreaksV4 product_as_int p → ⊥
keeps_v4 p (OtherLength k n q m s l r d) = no_send p k n s
keeps_v4 p (NoRoom k n q m r s l) = no_send q k m s

-- goes on to the next one, or nowhere
abbrev is_straight : Option Instr → Bool
is_straight (Some (i.Jump to)) = false
is_straight (Some (i.Jumpf to)) = false
is_straight (Some (i.Casej v to)) = false
is_straight (Some (i.Forup var to)) = false
is_straight (Some (i.Fordown var to)) = false
is_straight (Some (i.Nextup var to)) = false
is_straight (Some (i.Nextdown var to)) = false
is_straight o = true

straight_on : (p q : ℕ) (o : Option Instr) → is_straight o ≡ true → IsMember q (free_nexts p o) → q ≡ p + 1
straight_on p q None e m = absurd m
straight_on p q (Some (i.Jump to)) e m = absurd (cc e)
straight_on p q (Some (i.Jumpf to)) e m = absurd (cc e)
straight_on p q (Some (i.Casej v to)) e m = absurd (cc e)
straight_on p q (Some (i.Forup var to)) e m = absurd (cc e)
straight_on p q (Some (i.Fordown var to)) e m = absurd (cc e)
straight_on p q (Some (i.Nextup var to)) e m = absurd (cc e)
straight_on p q (Some (i.Nextdown var to)) e m = absurd (cc e)
straight_on p q (Some i.Tick) e m = absurd m
straight_on p q (Some (i.Call b up)) e m = absurd m
straight_on p q (Some i.Return) e m = absurd m
straight_on p q (Some i.End) e m = absurd m
straight_on p q (Some _) e m = ⊎_elim (λ s. s) (λ z. absurd z) m

onward : (n p q : ℕ) → IsFreePath product_as_int n p q → q ≡ p + n
onward zero p q w = let s : p ≡ q = w in omega (arith, s)
onward (suc n) p q w =
    let h = onward n w.0 q w.2 in
    let s = straight_on p w.0 (instr_at product_as_int p) (each_instr is_straight product_as_int.instrs refl p) w.1 in
    omega (arith, h, s)

pub keeps_v9 : (p : ℕ) → BreaksV9 product_as_int p → ⊥
keeps_v9 p (ComesBack a n l w) = let h = onward (suc n) p p w in omega (arith, h)

-- ---- it has no child, no call and no answer, so it breaks none of V6, V7 and V8; and so no rule

calls_not : Option Instr → Bool
calls_not (Some (i.Call b up)) = false
calls_not o = true

no_call : (a : Area) (p b up : ℕ) (ss : List Shape) (l : Layout) → IsCalled product_as_int a p b up ss l → ⊥
unfolding calls_not
no_call a p b up ss l h =
    not_true_and_false (calls_not (instr_at product_as_int p)) (each_instr calls_not product_as_int.instrs refl p)
    (ap calls_not h.call)

no_child : (o : Option ℕ) (k : ℕ) (t : ChildTable) → child_of (table_at [] o) k ≡ Some t → ⊥
no_child None k t e = cc e
no_child (Some n) k t e = cc e

pub verified : IsVerified product_as_int
verified V1 p h = keeps_v1 p h
verified V2 p h = keeps_v2 p h
verified V3 p h = keeps_v3 p h
verified V4 p h = keeps_v4 p h
verified V5 p h = keeps_v5 p h
verified V6 p (_, q, j, t, _, there, _, _) = no_child (table_named (instr_at product_as_int q)) j t there
verified V7 p (inl (a, b, up, ss, l, area, call, h)) = no_call a p b up ss l call
verified V7 p (inr (l, _, _, ((a, q, up, ss, lay, _, call, _), _))) = no_call a q l.block up ss lay call
verified V8 p (l, (j, there), _, (answers, _)) =
    not_true_and_false l.answer answers (one_layout (λ l. l.answer ≡ false) refl j l there)
verified V9 p h = keeps_v9 p h
