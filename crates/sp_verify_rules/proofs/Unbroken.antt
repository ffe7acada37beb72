-- Where V6 and V7 are broken nowhere, what they ask holds.
use Rattle.std.proofs.Common.{◌≡◌, ◌≢◌, ◌⊎◌, inl, inr, ⊎_elim, ℕ, ◌<◌, List, [], ◌∷◌, Some, refl, arith}
use Rattle.sp_base.proofs.Facts.{less_more_or_same}
use Rattle.sp_tree.specs.Interference.{IsMember, AllDifferent}
use Rattle.sp_code.specs.declared.code.Layout.{Layout}
use Rattle.sp_code.specs.declared.code.ChildTable.{ChildTable}
use Rattle.sp_code.specs.declared.code.Parts.{Parts}
use Rattle.sp_verify_rules.specs.Areas.{Area, Child, child_at}
use Rattle.sp_verify_rules.specs.Effects.{EffectKind, IsCalled, handed_to}
use Rattle.sp_verify_rules.specs.Forks.{BreaksV6, BreaksV7, KeepsEffects}
use Rattle.sp_verify_rules.specs.Reach.{IsArea}
use Rattle.sp_verify_rules.specs.Shapes.{Shape}
use Rattle.sp_verify_rules.proofs.Lists.{member_or}

different_or : (xs : List ℕ) → AllDifferent xs ⊎ (AllDifferent xs → ⊥)
different_or [] = inl tt
different_or (x ∷ xs) = ⊎_elim (λ m. inr (λ d. d.0 m))
    (λ n. ⊎_elim (λ d. inl (n, d)) (λ e. inr (λ d. e d.1)) (different_or xs)) (member_or x xs)

module _ (c : Parts) (Does : EffectKind → Area → ℕ → Type 0) (Stops : Area → Type 0)
    (six : (a : Area) (p k : ℕ) (t : ChildTable) → IsArea c (Child a p k) → child_at c p k ≡ Some t
    → BreaksV6 c Does Stops a p k t → ⊥)
    (seven : (a : Area) (p b up : ℕ) (ss : List Shape) (l : Layout) → IsArea c a → IsCalled c a p b up ss l
    → BreaksV7 c Does Stops l b ss → ⊥) where
  member : (x : ℕ) (xs : List ℕ) → ((IsMember x xs → ⊥) → ⊥) → IsMember x xs
  member x xs h = ⊎_elim (λ m. m) (λ n. absurd (h n)) (member_or x xs)

  empty : (xs : List ℕ) → ((xs ≢ []) → ⊥) → xs ≡ []
  empty [] h = refl
  empty (x ∷ xs) h = absurd (h (λ e. cc e))

  pub keeps_effects : KeepsEffects c Does
  keeps_effects = record {
    stored = λ a p k x t i e f. member x t.moved (λ n. six a p k t i e (inl (x, f, n)));
    loaded = λ a p k x t i e f o. member x (handed_to t) (λ n. six a p k t i e (inr (inl (x, f, o, n))));
    once = λ a p k t i e. ⊎_elim (λ d. d) (λ n. absurd (six a p k t i e (inr (inr (inl (inl n))))))
        (different_or (handed_to t));
    no_output = λ a p k t i e m. six a p k t i e (inr (inr (inl (inr (inl m)))));
    no_moves = λ a p k t i e s. empty t.moved (λ n. six a p k t i e (inr (inr (inl (inr (inr (s, n)))))));
    clear = λ a p j k x s t i o e f d m n. ⊎_elim
        (λ l. six a p k t o f (inr (inr (inr (j, s, l, e, (x, inl (m, n)))))))
        (λ h. ⊎_elim (λ l. six a p j s i e (inr (inr (inr (k, t, l, f, (x, inr (m, n))))))) (λ q. d q) h)
        (less_more_or_same j k);
    actual_once = λ a p b up ss l i k u v x m n. ⊎_elim
        (λ h. absurd (seven a p b up ss l i k (inl (u, v, x, (λ e. (let o : u < v = h in omega (arith, o, e))), m, n))))
        (λ h. ⊎_elim (λ g. absurd (seven a p b up ss l i k
        (inl (u, v, x, (λ e. (let o : v < u = g in omega (arith, o, e))), m, n)))) (λ e. e) h)
        (less_more_or_same u v);
    actual_none = λ a p b up ss l i k u x m f. member x l.variables
        (λ n. seven a p b up ss l i k (inr (u, x, m, (f, n))));
  }
