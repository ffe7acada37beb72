-- What is asked about which areas: what is seen of one item after the other is seen of all.
use Rattle.std.proofs.Common.{◌≡◌, ◌⊎◌, inl, inr, ⊎_elim, refl, ap, sym, ◌∙◌, subst, ℕ, ◌+◌, ◌<◌, ◌==◌, List, length}
use Rattle.std.proofs.Common.{Option, Some, None, Bool, true, false, ◌&&◌, if◌then◌else◌, arith}
use Rattle.std.specs.Prelude.{not, slice_get}
use Rattle.std.proofs.lemmas.Bool.{and_from, and_parts, false_from_ne_true, not-true, not_from_false, or_cases, or_left}
use Rattle.std.proofs.lemmas.Bool.{or_right}
use Rattle.std.proofs.lemmas.Option.{none-some, same_Some, slice_get_within}
use Rattle.sp_base.proofs.Facts.{below_or_last, not_true_and_false}
use Rattle.sp_code.specs.declared.instr.Instr.{Instr}
use Rattle.sp_code.specs.declared.code.ChildTable.{ChildTable}
use Rattle.sp_code.specs.declared.code.ForkTable.{ForkTable}
use Rattle.sp_code.specs.declared.code.Layout.{Layout}
use Rattle.sp_code.specs.declared.code.Parts.{Parts}
use Rattle.sp_verify_rules.specs.Areas.{Area, homes, instr_at}
use Rattle.sp_verify_areas.specs.Alone.{flag_at}
use Rattle.sp_verify_effects.specs.declared.asked_areas.Asked.{Asked}
use Rattle.sp_verify_effects.specs.declared.edges.Edge.{Edge}
use Rattle.sp_verify_effects.specs.declared.edges.Edge.TheVariants as edge
use Rattle.sp_verify_effects.specs.declared.facts.Fact.{Fact}
use Rattle.sp_verify_effects.specs.declared.facts.Effect.{Effect}
use Rattle.sp_verify_effects.specs.declared.facts.Effect.TheVariants as effect
use Rattle.sp_verify_effects.specs.Allowances.{Fits, FitsBlock, allows_some}
use Rattle.sp_verify_effects.specs.AskedAreas.{Asks, AsksChild, AsksOutside, AsksTables, allowance_at}
use Rattle.sp_verify_effects.specs.AskedAreas.{inside_entry, is_asked, is_marked, target}
use Rattle.sp_verify_effects.specs.FactClosure.{FollowsEdges, IsFollowed, Passes, fact_along, is_index}
use Rattle.sp_verify_effects.specs.Facts.{fact}

-- what holds of each of the first so many items
abbrev pub HoldsBefore : {A : Type 0} → (ℕ → A → Type 0) → List A → ℕ → Type 0
HoldsBefore {A} P xs n = (j : ℕ) (x : A) → j < n → slice_get xs j ≡ Some x → P j x

pub before_none : {A : Type 0} (P : ℕ → A → Type 0) (xs : List A) → HoldsBefore P xs 0
before_none P xs j x l e = absurd (omega (arith, l))

pub before_more : {A : Type 0} (P : ℕ → A → Type 0) (xs : List A) (n : ℕ) (x : A) → slice_get xs n ≡ Some x → P n x
    → HoldsBefore P xs n → HoldsBefore P xs (n + 1)
before_more P xs n x e h old j y l s =
    ⊎_elim (λ z. old j y z s)
    (λ z. subst (λ k. P k y) (sym z) (subst (P n) (same_Some x y (sym e ∙ (sym (ap (slice_get xs) z) ∙ s))) h))
    (below_or_last j n l)

pub before_all : {A : Type 0} (P : ℕ → A → Type 0) (xs : List A) (n : ℕ) → n ≡ length xs → HoldsBefore P xs n
    → (j : ℕ) (x : A) → slice_get xs j ≡ Some x → P j x
before_all P xs n e h j x s = h j x (let l = slice_get_within xs j x s in omega (arith, l, e)) s

-- an instruction that calls a block inside itself is there
pub inside_within : (c : Parts) (a : Area) (p n : ℕ) → inside_entry (homes c a) c.layouts (instr_at c p) ≡ Some n
    → p < length c.instrs
inside_within c a p n e = go (instr_at c p) refl e
  where
    go : (o : Option Instr) → instr_at c p ≡ o → inside_entry (homes c a) c.layouts o ≡ Some n → p < length c.instrs
    go None s e = absurd (none-some n e)
    go (Some i) s e = slice_get_within c.instrs p i s

-- ---- an area

module _ (k : Asked) (m : ℕ) (d : Effect) where
  -- what may be asked about it beside all
  abbrev May : Bool
  May = allows_some (allowance_at k m) d

  abbrev Rest : Bool
  Rest = flag_at k.flags m && not May

  -- an area about which something is asked is one of those that are asked about
  pub marked : is_asked k m d ≡ true → is_marked k m ≡ true
  marked h = ⊎_elim (λ z. or_left k.all (flag_at k.flags m) z)
      (λ z. or_right k.all (flag_at k.flags m) (and_parts (flag_at k.flags m) (not May) z).0) (or_cases k.all Rest h)

  -- of such an area, what it may not do is asked about
  pub asked_unless : is_marked k m ≡ true → (May ≡ true → ⊥) → is_asked k m d ≡ true
  asked_unless h never = ⊎_elim (λ z. or_left k.all Rest z)
      (λ z. or_right k.all Rest (and_from (flag_at k.flags m) (not May) z
      (not_from_false May (false_from_ne_true May never))))
      (or_cases k.all (flag_at k.flags m) h)

  -- what is asked about it, it may not do, unless all is asked about
  pub asked_never : is_asked k m d ≡ true → (k.all ≡ true) ⊎ (May ≡ false)
  asked_never h = ⊎_elim (λ z. inl z) (λ z. inr (not-true May (and_parts (flag_at k.flags m) (not May) z).1))
      (or_cases k.all Rest h)

pub all_asked : (k : Asked) (m : ℕ) (d : Effect) → k.all ≡ true → is_asked k m d ≡ true
all_asked k m d e = or_left k.all (flag_at k.flags m && not (allows_some (allowance_at k m) d)) e

pub child_asked : (k : Asked) (t : ChildTable) → is_marked k t.entry ≡ true → Fits (allowance_at k t.entry) t
    → AsksChild k t
child_asked k t h fits d beyond = asked_unless k t.entry d h (λ z. beyond (fits d z))

pub block_asked : (k : Asked) (l : Layout) → is_marked k l.entry ≡ true → FitsBlock (allowance_at k l.entry) l
    → AsksOutside k l
block_asked k l h fits d outside = asked_unless k l.entry d h (λ z. outside (fits d z))

-- ---- an edge

pub along_target : (e : Edge) (own : Bool) (d : Effect) (g : Fact) → fact_along e own d ≡ Some g → g.area ≡ target e
along_target (edge.Started to index) own (effect.Stores x) g h = ap (λ z. z.area) (sym
    (same_Some (fact to (effect.Stores x)) g h))
along_target (edge.Started to index) own (effect.Loads x) g h = go (is_index index x) h
  where
    go : (b : Bool) → (if b then None else Some (fact to (effect.Loads x))) ≡ Some g → g.area ≡ to
    go true z = absurd (none-some g z)
    go false z = ap (λ y. y.area) (sym (same_Some (fact to (effect.Loads x)) g z))
along_target (edge.Started to index) own effect.Stops g h = ap (λ z. z.area) (sym
    (same_Some (fact to effect.Stops) g h))
along_target (edge.Called to) true (effect.Stores x) g h = absurd (none-some g h)
along_target (edge.Called to) false (effect.Stores x) g h = ap (λ z. z.area) (sym
    (same_Some (fact to (effect.Stores x)) g h))
along_target (edge.Called to) true (effect.Loads x) g h = absurd (none-some g h)
along_target (edge.Called to) false (effect.Loads x) g h = ap (λ z. z.area) (sym
    (same_Some (fact to (effect.Loads x)) g h))
along_target (edge.Called to) own effect.Stops g h = ap (λ z. z.area) (sym (same_Some (fact to effect.Stops) g h))
along_target (edge.Passed to y x) own (effect.Stores z) g h = go (z == y) h
  where
    go : (b : Bool) → (if b then Some (fact to (effect.Stores x)) else None) ≡ Some g → g.area ≡ to
    go true w = ap (λ v. v.area) (sym (same_Some (fact to (effect.Stores x)) g w))
    go false w = absurd (none-some g w)
along_target (edge.Passed to y x) own (effect.Loads z) g h = go (z == y) h
  where
    go : (b : Bool) → (if b then Some (fact to (effect.Loads x)) else None) ≡ Some g → g.area ≡ to
    go true w = ap (λ v. v.area) (sym (same_Some (fact to (effect.Loads x)) g w))
    go false w = absurd (none-some g w)
along_target (edge.Passed to y x) own effect.Stops g h = absurd (none-some g h)

module _ (k : Asked) (m : ℕ) (e : Edge) where
  at_target : (own : Bool) (d : Effect) (g : Fact) → fact_along e own d ≡ Some g → is_asked k g.area g.effect ≡ true
      → is_asked k (target e) g.effect ≡ true
  at_target own d g s q = subst (λ n. is_asked k n g.effect ≡ true) (along_target e own d g s) q

  pub not_marked_edge : is_marked k (target e) ≡ false → IsFollowed k m e
  not_marked_edge h own d g s q = absurd (not_true_and_false (is_marked k (target e))
      (marked k (target e) g.effect (at_target own d g s q)) h)

  pub followed_edge : is_marked k m ≡ true → Passes (allowance_at k m) (allowance_at k (target e)) e
      → IsFollowed k m e
  followed_edge h p own d g s q = ⊎_elim (λ z. all_asked k m d z)
      (λ z. asked_unless k m d h (λ w. not_true_and_false (allows_some (allowance_at k (target e)) g.effect)
      (p own d g s w) z))
      (asked_never k (target e) g.effect (at_target own d g s q))

-- ---- if all is asked about all areas

pub all_tables : (o : Option ℕ) (k : Asked) (fs : List ForkTable) → k.all ≡ true → AsksTables o k fs
all_tables o k fs all t tb e j ch s l d b = all_asked k ch.entry d all

pub all_asks : (c : Parts) (k : Asked) → k.all ≡ true → k.known.clash ≡ None → k.known.side_effect ≡ None → Asks c k
all_asks c k all clash side_effect = record {
  tables = all_tables None k c.forks all;
  layouts = λ j l e r d b. all_asked k l.entry d all;
  calls = λ a p b up ss l is call below j x f outside.
      (all_asked k l.entry (effect.Stores x) all, all_asked k l.entry (effect.Loads x) all);
  inside = λ p a n l e. or_left k.all (flag_at k.blocks n) all;
  known = record {
    clash = λ p e. absurd (none-some p (sym clash ∙ e));
    side_effect = λ p e. absurd (none-some p (sym side_effect ∙ e));
  };
}

pub all_follow : (rows : List (List Edge)) (k : Asked) → k.all ≡ true → FollowsEdges rows k
all_follow rows k all m e h own d g s q = all_asked k m d all
