-- What is recorded of statements, one after another.
use Rattle.std.proofs.Common.{◌≡◌, ◌≢◌, ◌↔◌, ◌⊎◌, ℕ, zero, suc, ◌+◌, ◌<◌, ◌≤◌, true, List, [], ◌∷◌, map, drop}
use Rattle.std.proofs.Common.{length, get_or, set, refl, sym, ap, subst, ◌∙◌, arith, rules, inl, inr, add-one, Option}
use Rattle.std.proofs.Common.{Some, Bool, false, ◌||◌}
use Rattle.std.proofs.lemmas.Bool.{cases_eq, or_parts}
use Rattle.std.proofs.lemmas.Option.{same_Some}
use Rattle.sp_base.specs.declared.place.Place.{Place}
use Rattle.sp_tree.specs.declared.checked.Stmt.{Stmt, out-Stmt, fold_out-Stmt}
use Rattle.sp_tree.specs.declared.checked.Arm.{Arm, out-Arm, fold_out-Arm}
use Rattle.sp_tree.specs.declared.checked.Expr as ast_e
use Rattle.sp_tree.specs.declared.checked.Var as ast_v
use Rattle.sp_tree.specs.PlainChecked as p
use Rattle.sp_tree.specs.CheckedOf.{statement_of, statement_form_of, statements, arm_of, arms, sends, receives}
use Rattle.sp_tree.specs.CheckedOf.{expression_of, variable_of}
use Rattle.sp_tree.specs.Bare.{bare_statement, bare_statement_form}
use Rattle.sp_tree.specs.Uses.{Use, IsOther, In_stmt}
use Rattle.sp_varsets.specs.declared.uses.Uses.{Uses}
use Rattle.sp_varsets.specs.declared.var_set.VarSet.{VarSet}
use Rattle.sp_varsets.specs.declared.walk.StatementSets.{StatementSets}
use Rattle.sp_varsets.specs.declared.walk.Walk.{Walk}
use Rattle.sp_varsets.specs.Members.{has}
use Rattle.sp_varsets.specs.AddedUses.{AddsUses, AreEmpty, AreUnions, IsWithout}
use Rattle.sp_varsets.specs.Parts.{number_of, IsPart, IsInForm}
use Rattle.sp_varsets.specs.Records.{Extends, IsSetOfIndex, Records, slot_at, RecordsStatements, RecordsSets}
use Rattle.sp_varsets.specs.Walks.{AddsAndRecords}
use Rattle.sp_varsets.proofs.AddedSets.{HasUses, adds_then, adds_nothing, adds_unless}
use Rattle.sp_varsets.proofs.AddedSets.{from_empty, merged, without}

pub extends_self : (pool : List VarSet) → Extends pool pool
extends_self pool = record { longer = omega arith; unchanged = λ i x h. refl }

pub extends_then : {a b c : List VarSet} → Extends a b → Extends b c → Extends a c
extends_then {a} {b} {c} f g = record {
  longer = let l = f.longer in let m = g.longer in omega arith;
  unchanged = λ i x h. let l = f.longer in g.unchanged i x (omega arith) ∙ f.unchanged i x h;
}

pub stands_more : {a b : List VarSet} {i : ℕ} {F : ℕ → Type 0} → Extends a b → IsSetOfIndex a i F → IsSetOfIndex b i F
stands_more {a} {b} {i} {F} e s = record {
  within = let l = e.longer in let w = s.within in omega arith;
  members = λ x. (
    λ h. (s.members x).0 (sym (e.unchanged i x s.within) ∙ h),
    λ f. e.unchanged i x s.within ∙ (s.members
        x).1 f,
  );
}

pub stands_as : {a : List VarSet} {i : ℕ} {F G : ℕ → Type 0} → IsSetOfIndex a i F → ((x : ℕ) → F x ↔ G x)
    → IsSetOfIndex a i G
stands_as s e = record {
  within = s.within;
  members =
      λ x. (λ h. (e x).0 ((s.members x).0 h), λ g. (s.members x).1 ((e x).1 g));
}

pub records_more : {a b : List VarSet} {sets : StatementSets} {H : Use → Type 0} → Extends a b → Records a sets H
    → Records b sets H
records_more e r = record {
  targets = stands_more e r.targets;
  expressions = stands_more e r.expressions;
  calls = stands_more e r.calls;
}

pub writes_none : (w : Walk) (S : p.Statement → Type 0) → ((t : p.Statement) → S t → ⊥) → RecordsStatements w w S
writes_none w S n = record {
  pool = extends_self w.pool;
  all = λ t s. absurd (n t s);
  kept = λ n sets e. (sets, e);
  only = λ n sets e. inl e;
}

pub writes_then : {a b c : Walk} {S R : p.Statement → Type 0} → RecordsStatements a b S → RecordsStatements b c R
    → RecordsStatements a c (λ t. S t ⊎ R t)
writes_then {a} {b} {c} {S} {R} f g = record {
  pool = extends_then f.pool g.pool;
  all = λ t s. elim s [ inl h ↦ (let o = f.all t h in g.kept (number_of t) o.0 o.1) | inr h ↦ g.all t h ];
  kept = λ n sets e. let o = f.kept n sets e in g.kept n o.0 o.1;
  only = λ n sets e. elim (g.only n sets e) [
    | inl before ↦ elim (f.only n sets before) [
      | inl start ↦ inl start
      | inr (t, one, number, records) ↦ inr (t, inl one, number, records_more g.pool records)
    ]
    | inr (t, one, number, records) ↦ inr (t, inr one, number, records)
  ];
}

pub writes_as : {a b : Walk} {S R : p.Statement → Type 0} → RecordsStatements a b S → ((t : p.Statement) → S t → R t)
    → ((t : p.Statement) → R t → S t) → RecordsStatements a b R
writes_as f to from = record {
  pool = f.pool;
  all = λ t r. f.all t (from t r);
  kept = f.kept;
  only = λ n sets e. elim (f.only n sets e) [
    | inl before ↦ inl before
    | inr (t, one, number, records) ↦ inr (t, to t one, number, records)
  ];
}

pub kept_writes : {w v : Walk} {uses : Uses} (t : p.Statement) → HasUses uses (In_stmt (bare_statement t))
    → RecordsSets w v (number_of t) uses → RecordsStatements w v (λ u. u ≡ t)
kept_writes {w} {v} {uses} t h k = record {
  pool = k.pool;
  all = λ u e. (k.slot.0, ap (λ z. slot_at v.slots (number_of z)) e ∙ k.slot.1);
  kept = λ n sets e. elim (cases_eq n (number_of t)) [
    | inl here ↦ (k.slot.0, ap (λ m. slot_at v.slots m) here ∙ k.slot.1)
    | inr away ↦ (sets, k.others n away ∙ e)
  ];
  only = λ n sets e. elim (cases_eq n (number_of t)) [
    | inl here ↦
        let is : k.slot.0 ≡ sets = same_Some k.slot.0 sets
        (sym k.slot.1 ∙ (ap (λ m. slot_at v.slots m) (sym here) ∙ e)) in
        inr (t, refl, sym here, subst (λ o. Records v.pool o (In_stmt (bare_statement t))) is recorded)
    | inr away ↦ inl (sym (k.others n away) ∙ e)
  ];
}
  where
    recorded : Records v.pool k.slot.0 (In_stmt (bare_statement t))
    recorded = let (_, _, targets, expressions, calls) = k.slot in record {
      targets = stands_as targets (λ x. h.targets x);
      expressions = stands_as expressions (λ x. h.expressions x);
      calls = stands_as calls (λ x. h.calls x);
    }

pub walked_none : {w : Walk} {a b : Uses} {H : Use → Type 0} → AddsUses a b H → AddsAndRecords w w a b H (λ t. ⊥)
walked_none {w} f = record { adds = f; writes = λ k. writes_none w (λ t. ⊥) (λ t h. h) }

pub walked_first : {w v : Walk} {a b c : Uses} {H K : Use → Type 0} {S : p.Statement → Type 0} → AddsUses a b H
    → AddsAndRecords w v b c K S → AddsAndRecords w v a c (λ u. H u ⊎ K u) S
walked_first f g = record { adds = adds_then f g.adds; writes = g.writes }

pub walked_last : {w v : Walk} {a b c : Uses} {H K : Use → Type 0} {S : p.Statement → Type 0}
    → AddsAndRecords w v a b H S
    → AddsUses b c K → AddsAndRecords w v a c (λ u. H u ⊎ K u) S
walked_last f g = record { adds = adds_then f.adds g; writes = λ k. f.writes (g.kept k) }

pub walked_both : {w v x : Walk} {a b c : Uses} {H K : Use → Type 0} {S R : p.Statement → Type 0}
    → AddsAndRecords w v a b H S
    → AddsAndRecords v x b c K R → AddsAndRecords w x a c (λ u. H u ⊎ K u) (λ t. S t ⊎ R t)
walked_both f g = record {
  adds = adds_then f.adds g.adds;
  writes = λ k. writes_then (f.writes (g.adds.kept k)) (g.writes k);
}

pub walked_else_none : {w v : Walk} {a b : Uses} {H : Use → Type 0} {S : p.Statement → Type 0}
    → AddsAndRecords w v a b H S
    → AddsAndRecords w v a b H (λ t. S t ⊎ ⊥)
walked_else_none f = record {
  adds = f.adds;
  writes = λ k. writes_as (f.writes k) (λ t s. inl s) (λ t s. elim s [ inl h ↦ h | inr h ↦ absurd h ]);
}

pub walked_no_statements : (w : Walk) (a : Uses) → AddsAndRecords w w a a (λ u. ⊥) (λ t. ⊥)
walked_no_statements w a = walked_none (adds_nothing a (λ u. ⊥) (λ u h. h))

-- lists, item by item
statements_step : (ss : List Stmt) (i : ℕ) (s : Stmt) → i < length ss → s ≡ get_or ss i s
    → statements (map statement_of (drop i ss))
    ≡ p.AndThen (statement_of s) (statements (map statement_of (drop (suc i) ss)))
statements_step [] i s h e = absurd (omega arith)
statements_step (t ∷ ss) zero s h e = rw (sym e) refl
statements_step (t ∷ ss) (suc i) s h e = statements_step ss i s (omega arith) e

pub statements_on : (ss : List Stmt) (i : ℕ) (s : Stmt) → i < length ss → s ≡ get_or ss i s
    → statements (map statement_of (drop i ss))
    ≡ p.AndThen (statement_of s) (statements (map statement_of (drop (i + 1) ss)))
statements_on ss i s h e = subst (λ j. statements (map statement_of (drop i ss))
    ≡ p.AndThen (statement_of s) (statements (map statement_of (drop j ss)))) (sym (add-one i))
    (statements_step ss i s h e)

pub statements_end : (ss : List Stmt) (i : ℕ) → length ss ≤ i
    → statements (map statement_of (drop i ss)) ≡ p.NoStatement
statements_end [] zero h = refl
statements_end [] (suc i) h = refl
statements_end (t ∷ ss) zero h = absurd (omega arith)
statements_end (t ∷ ss) (suc i) h = statements_end ss i (omega arith)

pub sends_step : (es : List ast_e.Expr) (i n : ℕ) (at : Place) (c : p.Expression) (e : ast_e.Expr) → i < length es
    → e ≡ get_or es i e
    → sends n at c (map expression_of (drop i es))
    ≡ p.AndThen (p.Does n at (p.Send c (expression_of e)))
    (sends (n + 1) at c (map expression_of (drop (suc i) es)))
sends_step [] i n at c e h is = absurd (omega arith)
sends_step (t ∷ es) zero n at c e h is = rw (sym is) refl
sends_step (t ∷ es) (suc i) n at c e h is = sends_step es i n at c e (omega arith) is

pub sends_on : (es : List ast_e.Expr) (i first : ℕ) (at : Place) (c : p.Expression) (e : ast_e.Expr) → i < length es
    → e ≡ get_or es i e
    → sends (first + i) at c (map expression_of (drop i es))
    ≡ p.AndThen (p.Does (first + i) at (p.Send c (expression_of e)))
    (sends (first + (i + 1)) at c (map expression_of (drop (i + 1) es)))
sends_on es i first at c e h is =
    let far : first + i + 1 ≡ first + (i + 1) = omega arith in
    subst (λ j. sends (first + i) at c (map expression_of (drop i es))
    ≡ p.AndThen (p.Does (first + i) at (p.Send c (expression_of e)))
    (sends j at c (map expression_of (drop (i + 1) es)))) far
    (subst (λ j. sends (first + i) at c (map expression_of (drop i es))
    ≡ p.AndThen (p.Does (first + i) at (p.Send c (expression_of e)))
    (sends (first + i + 1) at c (map expression_of (drop j es)))) (sym (add-one i))
    (sends_step es i (first + i) at c e h is))

pub sends_end : (es : List ast_e.Expr) (i n : ℕ) (at : Place) (c : p.Expression) → length es ≤ i
    → sends n at c (map expression_of (drop i es)) ≡ p.NoStatement
sends_end [] zero n at c h = refl
sends_end [] (suc i) n at c h = refl
sends_end (t ∷ es) zero n at c h = absurd (omega arith)
sends_end (t ∷ es) (suc i) n at c h = sends_end es i n at c (omega arith)

pub receives_step : (es : List ast_v.Var) (i n : ℕ) (at : Place) (c : p.Expression) (e : ast_v.Var) → i < length es
    → e ≡ get_or es i e
    → receives n at c (map variable_of (drop i es))
    ≡ p.AndThen (p.Does n at (p.Receive c (variable_of e)))
    (receives (n + 1) at c (map variable_of (drop (suc i) es)))
receives_step [] i n at c e h is = absurd (omega arith)
receives_step (t ∷ es) zero n at c e h is = rw (sym is) refl
receives_step (t ∷ es) (suc i) n at c e h is = receives_step es i n at c e (omega arith) is

pub receives_on : (es : List ast_v.Var) (i first : ℕ) (at : Place) (c : p.Expression) (e : ast_v.Var) → i < length es
    → e ≡ get_or es i e
    → receives (first + i) at c (map variable_of (drop i es))
    ≡ p.AndThen (p.Does (first + i) at (p.Receive c (variable_of e)))
    (receives (first + (i + 1)) at c (map variable_of (drop (i + 1) es)))
receives_on es i first at c e h is =
    let far : first + i + 1 ≡ first + (i + 1) = omega arith in
    subst (λ j. receives (first + i) at c (map variable_of (drop i es))
    ≡ p.AndThen (p.Does (first + i) at (p.Receive c (variable_of e)))
    (receives j at c (map variable_of (drop (i + 1) es)))) far
    (subst (λ j. receives (first + i) at c (map variable_of (drop i es))
    ≡ p.AndThen (p.Does (first + i) at (p.Receive c (variable_of e)))
    (receives (first + i + 1) at c (map variable_of (drop j es)))) (sym (add-one i))
    (receives_step es i (first + i) at c e h is))

pub receives_end : (es : List ast_v.Var) (i n : ℕ) (at : Place) (c : p.Expression) → length es ≤ i
    → receives n at c (map variable_of (drop i es)) ≡ p.NoStatement
receives_end [] zero n at c h = refl
receives_end [] (suc i) n at c h = refl
receives_end (t ∷ es) zero n at c h = absurd (omega arith)
receives_end (t ∷ es) (suc i) n at c h = receives_end es i n at c (omega arith)

-- slots
pub slot_put : (xs : List (Option StatementSets)) (n : ℕ) (o : StatementSets) → n < length xs
    → slot_at (set xs n (Some o)) n ≡ Some o
slot_put [] n o h = absurd (omega arith)
slot_put (x ∷ xs) zero o h = refl
slot_put (x ∷ xs) (suc n) o h = slot_put xs n o (omega arith)

pub slot_other : (xs : List (Option StatementSets)) (n m : ℕ) (o : Option StatementSets) → m ≢ n
    → slot_at (set xs n o) m ≡ slot_at xs m
slot_other [] n m o h = refl
slot_other (x ∷ xs) zero zero o h = absurd (h refl)
slot_other (x ∷ xs) zero (suc m) o h = refl
slot_other (x ∷ xs) (suc n) zero o h = refl
slot_other (x ∷ xs) (suc n) (suc m) o h = slot_other xs n m o (λ e. h (ap suc e))

-- one statement, from what it has inside it
pub statement_is : (s : Stmt) → statement_of s
    ≡ p.Does (out-Stmt s).number (out-Stmt s).at (statement_form_of (out-Stmt s).form)
statement_is s = search (rules, fold_out-Stmt)

pub arm_is : (a : Arm) → arm_of a ≡ p.On (out-Arm a).constants (statement_of (out-Arm a).body)
arm_is a = search (rules, fold_out-Arm)

arms_step : (bs : List Arm) (i : ℕ) (b : Arm) → i < length bs → b ≡ get_or bs i b
    → arms (map arm_of (drop i bs)) ≡ p.Or (p.On (out-Arm b).constants (statement_of (out-Arm b).body))
    (arms (map arm_of (drop (suc i) bs)))
arms_step [] i b h e = absurd (omega arith)
arms_step (c ∷ bs) zero b h e = rw (sym e) (rw (arm_is b) refl)
arms_step (c ∷ bs) (suc i) b h e = arms_step bs i b (omega arith) e

pub arms_on : (bs : List Arm) (i : ℕ) (b : Arm) → i < length bs → b ≡ get_or bs i b
    → arms (map arm_of (drop i bs)) ≡ p.Or (p.On (out-Arm b).constants (statement_of (out-Arm b).body))
    (arms (map arm_of (drop (i + 1) bs)))
arms_on bs i b h e = subst (λ j. arms (map arm_of (drop i bs))
    ≡ p.Or (p.On (out-Arm b).constants (statement_of (out-Arm b).body)) (arms (map arm_of (drop j bs))))
    (sym (add-one i)) (arms_step bs i b h e)

pub arms_end : (bs : List Arm) (i : ℕ) → length bs ≤ i → arms (map arm_of (drop i bs)) ≡ p.NoArm
arms_end [] zero h = refl
arms_end [] (suc i) h = refl
arms_end (c ∷ bs) zero h = absurd (omega arith)
arms_end (c ∷ bs) (suc i) h = arms_end bs i (omega arith)

pub statement_walked : {w v x : Walk} {a b e m : Uses} (n : ℕ) (at : Place) (f : p.Form) (failed : Bool) → AreEmpty e
    → AddsAndRecords w v e m (In_stmt (bare_statement_form f)) (λ t. IsInForm t f) → AreUnions a m b
    → (failed ≡ false → RecordsSets v x n m)
    → AddsAndRecords w x a (record {
      targets = b.targets;
      expressions = b.expressions;
      calls = b.calls;
      stops = b.stops;
      is_lost = b.is_lost || failed;
    }) (In_stmt (bare_statement (p.Does n at f)))
    (λ t. IsPart t (p.Does n at f))
statement_walked {w} {v} {x} {a} {b} {e} {m} n at f failed empty walked union recorded = record {
  adds = adds_unless failed (merged (λ l. from_empty empty walked.adds l) union);
  writes = λ k.
      let (held, well) = or_parts b.is_lost failed k in
      let l = (union.kept held).1 in
      writes_as (writes_then (walked.writes l) (kept_writes (p.Does n at f) (from_empty empty walked.adds l)
      (recorded well)))
      (λ t s. elim s [ inl i ↦ inr i | inr e ↦ inl e ])
      (λ t s. elim s [ inl e ↦ inr e | inr i ↦ inl i ]);
}

pub element_walked : {w v : Walk} {a b e m k : Uses} (y : ℕ) (s : p.Statement) → AreEmpty e
    → AddsAndRecords w v e m (In_stmt (bare_statement s)) (λ t. IsPart t s)
    → IsWithout m.targets k.targets y → IsWithout m.expressions k.expressions y → k.calls ≡ m.calls → k.stops ≡ m.stops
    → k.is_lost ≡ m.is_lost → AreUnions a k b
    → AddsAndRecords w v a b (λ u. In_stmt (bare_statement s) u × IsOther y u) (λ t. IsPart t s)
element_walked y s empty walked targets seen calls stops lost union =
    record {
      adds = merged (λ l. without y (from_empty empty walked.adds (sym lost ∙ l)) targets seen calls stops) union;
      writes = λ l. walked.writes (sym lost ∙ (union.kept l).1);
    }

pub keeps_is : (old new : Walk) (p1 p2 p3 : List VarSet) (n i j k : ℕ) (uses : Uses)
    → Extends old.pool p1 → IsSetOfIndex p1 i (λ x. has uses.targets x ≡ true) → Extends p1 p2
    → IsSetOfIndex p2 j (λ x. has uses.expressions x ≡ true) → Extends p2 p3
    → IsSetOfIndex p3 k (λ x. has uses.calls x ≡ true)
    → new.pool ≡ p3 → slot_at new.slots n ≡ Some (record { targets = i; expressions = j; calls = k })
    → ((m : ℕ) → m ≢ n → slot_at new.slots m ≡ slot_at old.slots m) → RecordsSets old new n uses
keeps_is old new p1 p2 p3 n i j k uses e1 s1 e2 s2 e3 s3 pool there others = record {
  pool = subst (λ q. Extends old.pool q) (sym pool) (extends_then e1 (extends_then e2 e3));
  slot = (
    record { targets = i; expressions = j; calls = k },
    there,
    subst (λ q. IsSetOfIndex q i (λ x. has uses.targets x ≡ true)) (sym pool) (stands_more e3 (stands_more e2 s1)),
    subst (λ q. IsSetOfIndex q j (λ x. has uses.expressions x ≡ true)) (sym pool) (stands_more e3 s2),
    subst (λ q. IsSetOfIndex q k (λ x. has uses.calls x ≡ true)) (sym pool) s3,
  );
  others = others;
}
