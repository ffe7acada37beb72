-- Calls that were seen to fit.
use Rattle.std.proofs.Common.{◌≡◌, inl, inr, ⊎_elim, sym, ◌∙◌, ap, subst, ℕ, ◌+◌, ◌-◌, ◌≤◌, List, length, Some}
use Rattle.std.proofs.Common.{Bool, true, arith}
use Rattle.std.specs.Prelude.{slice_get}
use Rattle.std.proofs.lemmas.Option.{same_Some}
use Rattle.sp_code.specs.declared.code.Formal.{Formal}
use Rattle.sp_code.specs.declared.code.Layout.{Layout}
use Rattle.sp_verify_shapes.specs.declared.memo.Memo.{Memo}
use Rattle.sp_verify_shapes.specs.declared.seen.Seen.{Seen}
use Rattle.sp_verify_shapes.specs.declared.stacks.Jump.{Jump}
use Rattle.sp_verify_shapes.specs.declared.stacks.Stacks.{Stacks}
use Rattle.sp_verify_shapes.specs.Fits.{PassesTo, first_fit}
use Rattle.sp_verify_shapes.specs.Names.{AreLike, PassAlike, far_of}
use Rattle.sp_verify_shapes.specs.Seen.{AddsPart, AddsParts, AddsSeen, ArePartsOf, AreSeen, AreSeenOf, IsSeenJump}
use Rattle.sp_verify_shapes.specs.Stacks.{list_of}
use Rattle.sp_verify_shapes.proofs.AlikeLists.{alike_back, alike_through, like_fit}

-- ---- what is kept by names

-- one more
pub parts_lower : (st : Stacks) (fs : List Formal) (p k n : ℕ) (b : Bool) (old mid new : Memo)
    → first_fit fs k (list_of st n) ≡ b → AddsParts st fs p (k + 1) b old mid → AddsPart st mid new p k n
    → AddsParts st fs p k b old new
parts_lower st fs p k n b old mid new fit before one q i m e = ⊎_elim
    (λ h. ⊎_elim (λ o. inl o) (λ w. inr (w.0, (let x = w.1 in omega (arith, x)), w.2)) (before q i m h))
    (λ h. inr (
      h.0,
      (let x = h.1 in omega (arith, x)),
      (n, h.2, ap (λ y. first_fit fs y (list_of st n)) h.1 ∙ fit),
    ))
    (one q i m e)

pub parts_all : (st : Stacks) (fs : List Formal) (p j k : ℕ) (b : Bool) (old new : Memo) → j ≤ k
    → AddsParts st fs p k b old new → AddsParts st fs p j b old new
parts_all st fs p j k b old new l before q i m e =
    ⊎_elim (λ o. inl o) (λ w. inr (w.0, (let x = w.1 in omega (arith, l, x)), w.2)) (before q i m e)

-- the jump over shapes that were seen before
pub passes_seen : (st : Stacks) (fs : List Formal) (p k n : ℕ) (j : Jump) (b : Bool) (old mid : Memo) → k ≤ length fs
    → AddsParts st fs p (k + 1) b old mid → ArePartsOf fs st p old → IsSeenJump st mid p k n j
    → PassesTo st fs k n j
passes_seen st fs p k n j b old mid within before are h = record {
  some = h.some;
  within = h.within;
  held = h.jump.held;
  same = go (⊎_elim (λ o. are k h.name o) (λ w. let x = w.1 in absurd (omega (arith, x))) (before p k h.name h.fits));
}
  where
    go : (m : ℕ) × PassAlike st m h.name × (first_fit fs k (list_of st m) ≡ true)
        → first_fit fs k (list_of st n) ≡ first_fit fs (k - j.far) (list_of st j.to)
    go w =
        let both = alike_back st w.0 n (alike_through st w.0 h.name n w.1 (alike_back st n h.name h.alike)) in
        let e : far_of st w.0 ≡ j.far = sym both.0 ∙ h.far in
        like_fit fs k j.far (list_of st n) (list_of st w.0) (list_of st j.to) within h.within h.jump.lands
        (subst (λ i. AreLike i (list_of st n) (list_of st w.0)) e both.1) w.2

-- ---- where all fit

pub seen_of : (ls : List Layout) (st : Stacks) (p : ℕ) (l : Layout) (seen : Seen) → slice_get ls p ≡ Some l
    → AreSeen ls st seen → AreSeenOf l.formals st p seen
seen_of ls st p l seen at are = ((are.0 p l at).0, (are.0 p l at).1, are.1)

pub seen_after : (ls : List Layout) (st : Stacks) (p : ℕ) (l : Layout) (b : Bool) (old new : Seen)
    → slice_get ls p ≡ Some l → b ≡ true → AddsSeen st l.formals p b old new → AreSeen ls st old
    → AreSeen ls st new
seen_after ls st p l b old new at whole adds are = (
  λ q m e.
      let same : q ≡ p → l ≡ m = λ s. same_Some l m (sym at ∙ ap (slice_get ls) (sym s) ∙ e) in (
        λ i n h. ⊎_elim (λ o. (are.0 q m e).0 i n o)
            (λ w. subst (λ (x : Layout). first_fit x.formals i (list_of st n) ≡ true) (same w.0) (w.2 ∙ whole))
            (adds.0 q i n h),
        λ i r h. ⊎_elim (λ o. (are.0 q m e).1 i r o)
            (λ w. let (k, like, fit) = w.2 in (
              k,
              like,
              subst (λ (x : Layout). first_fit x.formals i (list_of st k) ≡ true) (same w.0) (fit ∙ whole),
            ))
            (adds.1 q i r h),
      ),
  adds.2,
)
