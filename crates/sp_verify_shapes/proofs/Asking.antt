-- Formals that stand for many, and the operands that fit them.
use Rattle.std.proofs.Common.{◌≡◌, ⊎_elim, sym, ◌∙◌, ap, subst, ℕ, zero, suc, ◌+◌, ◌-◌, ◌<◌, ◌≤◌}
use Rattle.std.proofs.Common.{List, [], ◌∷◌, ◌++◌, length, Option, Some, true, arith}
use Rattle.std.specs.Prelude.{slice_get}
use Rattle.std.proofs.lemmas.Option.{none-some, same_Some}
use Rattle.std.proofs.lemmas.List.{length-append}
use Rattle.sp_base.proofs.Facts.{within_or_past}
use Rattle.sp_code.specs.declared.code.Formal.{Formal}
use Rattle.sp_code.specs.declared.code.Layout.{Layout}
use Rattle.sp_verify_rules.specs.Shapes.{Shape}
use Rattle.sp_verify_rules.specs.Rules.{fits_formal}
use Rattle.sp_verify_shapes.specs.declared.asks.Ask.{Ask}
use Rattle.sp_verify_shapes.specs.Asks.{AllFit, AreAsks, Covers, CoversAll, IsAsk, IsCovered, IsCovering}

-- ---- one formal and another

pub covers_through : (f g h : Formal) → Covers f g → Covers g h → Covers f h
covers_through f g h a b s e = b s (a s e)

-- ---- many operands

pub all_fit_other : (f g : Formal) → Covers g f → (ss : List Shape) → AllFit g ss → AllFit f ss
all_fit_other f g c [] a = tt
all_fit_other f g c (s ∷ ss) a = (c s a.0, all_fit_other f g c ss a.1)

pub all_fit_both : (f : Formal) (ss ts : List Shape) → AllFit f ss → AllFit f ts → AllFit f (ss ++ ts)
all_fit_both f [] ts a b = b
all_fit_both f (s ∷ ss) ts a b = (a.0, all_fit_both f ss ts a.1 b)

-- one that all of three parts fit
pub all_fit_three : (f g : Formal) (o near next : Option Formal) (s : Shape) (ss ts : List Shape)
    → fits_formal g s ≡ true
    → ((h : Formal) → near ≡ Some h → AllFit h ss) → ((h : Formal) → next ≡ Some h → AllFit h ts)
    → ((h : Formal) → o ≡ Some h → IsCovering h (Some g) × IsCovering h near) → IsCovering f o × IsCovering f next
    → AllFit f (s ∷ (ss ++ ts))
all_fit_three f g o near next s ss ts fit a b both all =
    let (x, ox, cx) = all.0 in
    let (y, ny, cy) = all.1 in
    let first = (both x ox).0 in
    let second = (both x ox).1 in
    let same : g ≡ first.0 = same_Some g first.0 first.1 in (
      cx s (first.2 s (subst (λ h. fits_formal h s ≡ true) same fit)),
      all_fit_both f ss ts
          (all_fit_other f x cx ss (all_fit_other x second.0 second.2 ss (a second.0 second.1)))
          (all_fit_other f y cy ts (b y ny)),
    )

-- ---- many formals

-- one that covers all of three parts
pub both_ask : (fs : List Formal) (k : ℕ) (f : Formal) (near next : Ask) (r o : Option Formal)
    → slice_get fs k ≡ Some f → IsAsk fs k near → IsAsk fs near.to next
    → ((h : Formal) → r ≡ Some h → IsCovered h (Some f) × IsCovered h near.all)
    → ((h : Formal) → o ≡ Some h → IsCovered h r × IsCovered h next.all)
    → IsAsk fs (k + 1) (record { to = next.to; all = o })
both_ask fs k f near next r o e a b both all =
    (let l = a.0 in let m = b.0 in omega (arith, l, m), covered)
  where
    covered : (g : Formal) → o ≡ Some g → CoversAll g fs next.to (k + 1)
    covered g h q u l m t = ⊎_elim (λ past. upper past) (λ before. lower before) (within_or_past near.to q)
      where
        through : (z : Formal) → IsCovered g r × IsCovered g next.all
            → ((x : Formal) → r ≡ Some x → Covers x u) → Covers g u
        through z w on = covers_through g w.0.0 u w.0.2 (on w.0.0 w.0.1)

        lower : q < near.to → Covers g u
        lower before =
            let w = (all g h).1 in
            covers_through g w.0 u w.2 (b.1 w.0 w.1 q u l before t)

        upper : near.to ≤ q → Covers g u
        upper past = through f (all g h) (λ x rx. ⊎_elim (λ at. last x rx at) (λ before. middle x rx before)
            (within_or_past k q))
          where
            middle : (x : Formal) → r ≡ Some x → q < k → Covers x u
            middle x rx before =
                let w = (both x rx).1 in
                covers_through x w.0 u w.2 (a.1 w.0 w.1 q u past before t)

            last : (x : Formal) → r ≡ Some x → k ≤ q → Covers x u
            last x rx at =
                let i : q ≡ k = omega (arith, at, m) in
                let w = (both x rx).0 in
                let same : u ≡ w.0 = same_Some u w.0 (sym t ∙ ap (slice_get fs) i ∙ e ∙ w.1) in
                subst (λ v. Covers x v) (sym same) w.2

-- ---- tables of them

-- what is so of each item, and of one more behind them, is so of each of all
pub each_with_one : {T : Type 0} (P : ℕ → T → Type 0) (xs : List T) (x : T)
    → ((i : ℕ) (y : T) → slice_get xs i ≡ Some y → P i y) → P (length xs) x
    → (i : ℕ) (y : T) → slice_get (xs ++ x ∷ []) i ≡ Some y → P i y
each_with_one P [] x each last zero y e = subst (P 0) (same_Some x y e) last
each_with_one P [] x each last (suc i) y e = absurd (none-some y e)
each_with_one P (z ∷ xs) x each last zero y e = each zero y e
each_with_one P (z ∷ xs) x each last (suc i) y e =
    each_with_one (λ j w. P (suc j) w) xs x (λ j w f. each (suc j) w f) last i y e

length_more : {T : Type 0} (xs : List T) (x : T) (k : ℕ) → length xs ≡ k → length (xs ++ x ∷ []) ≡ k + 1
length_more xs x k e = length-append xs (x ∷ []) ∙ ap (λ n. n + 1) e

-- one more
pub asks_more : (fs : List Formal) (old new : List Ask) (a : Ask) (k : ℕ) → length old ≡ k → AreAsks fs old
    → IsAsk fs (k + 1) a
    → new ≡ old ++ a ∷ []
    → (length new ≡ k + 1) × AreAsks fs new
asks_more fs old new a k size are one e = subst (λ xs. (length xs ≡ k + 1) × AreAsks fs xs) (sym e)
    (length_more old a k size, each)
  where
    each : AreAsks fs (old ++ a ∷ [])
    each = each_with_one (λ i b. IsAsk fs (i + 1) b) old a are (subst (λ m. IsAsk fs (m + 1) a) (sym size) one)

-- those of the first layouts
abbrev pub FirstAsked : List Layout → List (List Ask) → Type 0
FirstAsked ls rows = (i : ℕ) (l : Layout) (xs : List Ask) → slice_get ls i ≡ Some l → slice_get rows i ≡ Some xs
    → AreAsks l.formals xs

pub asked_more : (ls : List Layout) (old new : List (List Ask)) (j : ℕ) (x : Layout) (ys : List Ask) → length old ≡ j
    → slice_get ls j ≡ Some x → AreAsks x.formals ys → FirstAsked ls old → new ≡ old ++ ys ∷ []
    → (length new ≡ j + 1) × FirstAsked ls new
asked_more ls old new j x ys size at one each e = subst (λ rows. (length rows ≡ j + 1) × FirstAsked ls rows) (sym e)
    (length_more old ys j size, all)
  where
    last : (l : Layout) → slice_get ls (length old) ≡ Some l → AreAsks l.formals ys
    last l f = subst (λ (z : Layout). AreAsks z.formals ys)
        (same_Some x l (sym at ∙ ap (slice_get ls) (sym size) ∙ f)) one

    all : FirstAsked ls (old ++ ys ∷ [])
    all i l xs f g = each_with_one (λ j zs. (m : Layout) → slice_get ls j ≡ Some m → AreAsks m.formals zs) old ys
        (λ j zs h m k. each j m zs k h) last i xs g l f

-- ---- down the formals

-- those of what is kept, and one
pub covers_kept : (f g : Formal) (fs : List Formal) (k : ℕ) (a : Ask) → IsAsk fs k a → a.all ≡ Some g → Covers f g
    → CoversAll f fs a.to k
covers_kept f g fs k a is e c q u i j t = covers_through f g u c (is.1 g e q u i j t)

pub covers_one : (f g : Formal) (fs : List Formal) (k : ℕ) → 0 < k → slice_get fs (k - 1) ≡ Some g → Covers f g
    → CoversAll f fs (k - 1) k
covers_one f g fs k some e c q u i j t =
    let at : q ≡ k - 1 = omega (arith, some, i, j) in
    subst (Covers f) (same_Some g u (sym e ∙ ap (slice_get fs) (sym at) ∙ t)) c
