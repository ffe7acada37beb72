-- Stores that are held apart are a partition, side by side.
use Rattle.std.proofs.Common.{◌≡◌, ◌≢◌, inl, inr, ⊎_elim, ℕ, zero, suc, ◌<◌, List, [], ◌∷◌, ◌++◌, Option}
use Rattle.std.proofs.Common.{Some, None, refl, sym, ap, ◌∙◌, subst, arith}
use Rattle.std.specs.Prelude.{IsSome}
use Rattle.std.specs.List.{AllByRecursion}
use Rattle.std.specs.FinMap as map
use Rattle.sp_cell.specs.declared.spot.Spot.{Spot}
use Rattle.sp_cell.specs.Holders.{View, ContentsAgree, HasUniqueSpots, AgreeOnAll, IsPartition}
use Rattle.sp_cell.specs.Map.{Plain}
use Rattle.sp_journal.specs.Queue.{numbers}
use Rattle.sp_journal.specs.declared.entry.Birth.{Birth}
use Rattle.sp_cell.proofs.HeldLaws.{same_spot}
use Rattle.sp_code.specs.Machine.{Config, At}
use Rattle.sp_code.specs.Memory.{Memory}
use Rattle.sp_code.specs.Sound.{view_at, views_at, views_of}
use Rattle.sp_code.specs.System.{Condition, Absent}
use Rattle.sp_verify_rules.specs.Apart.{config_in, map_of, meaning, AreApart, AreOlder}
use Rattle.sp_verify_rules.proofs.Sole.{one_frame, none_or}

abbrev viewed : Config (Memory Plain) → View
viewed c = record { map = map_of c; means = meaning c }

view_is : (c : Config (Memory Plain)) → view_at c ≡ viewed c
view_is (At pc st n) = refl

abbrev of_seen : Option (Config (Memory Plain)) → List View
of_seen None = []
of_seen (Some c) = view_at c ∷ []

views_are : (y : Condition Plain) → views_at y ≡ of_seen (config_in y)
views_are Absent = refl
views_are _ = refl

module _ (f : ℕ → Condition Plain) (birth : ℕ → Option Birth) (p : AreApart f birth) (older : AreOlder f birth) where
  named : (r : ℕ) (c : Config (Memory Plain)) → config_in (f r) ≡ Some c → HasUniqueSpots (viewed c)
  named r c s x y k l e = same_spot x y
      (one_frame f birth p older r r c c s s x y k l (ap (λ (z : Spot). z.frame) e)) (ap (λ (z : Spot). z.variable) e)

  agreeing : (r t : ℕ) (c d : Config (Memory Plain)) → r ≢ t → config_in (f r) ≡ Some c → config_in (f t) ≡ Some d
      → AgreeOnAll (viewed c) (viewed d)
  agreeing r t c d apart s u x y e = ⊎_elim (λ n. inl n)
      (λ k. ⊎_elim (λ n. inr (inl n)) (λ l. both k l) (none_or (map.get (map_of d) y)))
      (none_or (map.get (map_of c) x))
    where
      both : IsSome (map.get (map_of c) x) → IsSome (map.get (map_of d) y)
          → ContentsAgree (map.get (map_of c) x) (map.get (map_of d) y)
      both k l =
          let fr = one_frame f birth p older r t c d s u x y k l (ap (λ (z : Spot). z.frame) e) in
          let same = same_spot x y fr (ap (λ (z : Spot). z.variable) e) in
          subst (λ (z : Spot). ContentsAgree (map.get (map_of c) x) (map.get (map_of d) z)) same
          (p.agree r t c d apart s u x (ap (λ (z : Spot). z.frame) e ∙ ap (meaning d) (sym fr)))

  -- a view agrees with those of all younger processes
  agree_all : (r : ℕ) (c : Config (Memory Plain)) → config_in (f r) ≡ Some c → (n a : ℕ) → r < a
      → AllByRecursion (AgreeOnAll (viewed c)) (views_of f (numbers a n))
  agree_all r c s zero a lt = tt
  agree_all r c s (suc n) a lt =
      subst (λ (vs : List View). AllByRecursion (AgreeOnAll (viewed c)) (vs ++ views_of f (numbers (suc a) n)))
      (sym (views_are (f a))) (go (config_in (f a)) refl (agree_all r c s n (suc a) (omega (arith, lt))))
    where
      go : (o : Option (Config (Memory Plain))) → config_in (f a) ≡ o
          → AllByRecursion (AgreeOnAll (viewed c)) (views_of f (numbers (suc a) n))
          → AllByRecursion (AgreeOnAll (viewed c)) (of_seen o ++ views_of f (numbers (suc a) n))
      go None e rest = rest
      go (Some d) e rest = (
        subst (AgreeOnAll (viewed c)) (sym (view_is d))
            (agreeing r a c d (λ i. absurd (omega (arith, lt, i))) s e),
        rest,
      )

  pub partition : (n a : ℕ) → IsPartition (views_of f (numbers a n))
  partition zero a = tt
  partition (suc n) a =
      subst (λ (vs : List View). IsPartition (vs ++ views_of f (numbers (suc a) n))) (sym (views_are (f a)))
      (go (config_in (f a)) refl (partition n (suc a)))
    where
      go : (o : Option (Config (Memory Plain))) → config_in (f a) ≡ o → IsPartition (views_of f (numbers (suc a) n))
          → IsPartition (of_seen o ++ views_of f (numbers (suc a) n))
      go None e rest = rest
      go (Some c) e rest = subst (λ (w : View). IsPartition (w ∷ views_of f (numbers (suc a) n))) (sym (view_is c))
          (named a c e, agree_all a c e n (suc a) (omega arith), rest)
