-- Locality of work that is a tree of reads and writes, once for all trees.
use Rattle.std.proofs.Common.{◌≡◌, inl, inr, Bool, cond, ◌∷◌, refl, ap, ◌∙◌}
use Rattle.sp_meaning.specs.Maps.{IsTest, at_key}
use Rattle.sp_meaning.specs.EffectTree.{EffectTree, Leaf, ReadThen, WriteThen, run_tree, TreeTouches, tree_writes}
use Rattle.sp_meaning.specs.EffectTree.{and_then}

pub record Alike {Loc Value A : Type 0} (same : Loc → Loc → Bool) (t : EffectTree Loc Value A) (m n : Loc
    → Value) : Type
    0 where
  pub value : (run_tree same t m).0 ≡ (run_tree same t n).0
  pub puts : tree_writes same t m ≡ tree_writes same t n

module _ {Loc Value : Type 0} {same : Loc → Loc → Bool} (test : IsTest same) where
  pub local : {A : Type 0} (t : EffectTree Loc Value A) (m n : Loc → Value)
      → ((q : Loc) → TreeTouches same t m q → m q ≡ n q)
      → Alike same t m n
  local (Leaf a) m n h = record { value = refl; puts = refl }
  local (ReadThen l more) m n h =
      let x = local (more (m l)) m n (λ q k. h q (inr k)) in
      let e = h l (inl refl) in
      record {
        value = x.value ∙ ap (λ v. (run_tree same (more v) n).0) e;
        puts = x.puts
            ∙ ap (λ v. tree_writes same (more v) n) e;
      }
  local (WriteThen l v more) m n h =
      let x = local more (at_key same l v m) (at_key same l v n) (λ q k. ap (cond (same l q) v) (h q (inr k))) in
      record { value = x.value; puts = ap (λ z. (l, v) ∷ z) x.puts }

  pub answer_then : {A B : Type 0} (t : EffectTree Loc Value A) (f : A → EffectTree Loc Value B) (m : Loc → Value)
      → run_tree same (and_then t f) m ≡ run_tree same (f (run_tree same t m).0) (run_tree same t m).1
  answer_then (Leaf a) f m = refl
  answer_then (ReadThen l more) f m = answer_then (more (m l)) f m
  answer_then (WriteThen l v more) f m = answer_then more f (at_key same l v m)
