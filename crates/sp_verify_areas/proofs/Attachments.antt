-- The nodes of children: what is put for a table stands for what is around the code of its children.
use Rattle.std.proofs.Common.{◌≡◌, ⊎_elim, refl, ap, sym, ◌∙◌, ℕ, ◌+◌, ◌<◌}
use Rattle.std.proofs.Common.{List, [], ◌∷◌, ◌++◌, length, Some, None, arith}
use Rattle.std.specs.Prelude.{slice_get}
use Rattle.std.proofs.lemmas.List.{length-append}
use Rattle.std.proofs.lemmas.Option.{same_Some}
use Rattle.sp_base.proofs.Facts.{below_or_last, item_there}
use Rattle.sp_code.specs.declared.code.Layout.{Layout}
use Rattle.sp_code.specs.declared.code.ChildTable.{ChildTable}
use Rattle.sp_code.specs.Memory.{Home}
use Rattle.sp_verify_rules.specs.Areas.{with_home}
use Rattle.sp_verify_areas.specs.declared.tree.Frame.TheVariants as frame
use Rattle.sp_verify_areas.specs.declared.tree.Node.{Node}
use Rattle.sp_verify_areas.specs.Grown.{PutsNode}
use Rattle.sp_verify_areas.specs.Around.{PutsChild, IsExtended, PutsChildren}
use Rattle.sp_verify_areas.specs.Tree.{AreLists, with_list}
use Rattle.sp_verify_areas.proofs.TreeGrowth.{at_last, before_last, put_lists, raised}

-- the same node again
pub puts_again : (old : List Node) (number : ℕ) (n : Node) → ((m : Node) → slice_get old number ≡ Some m → n ≡ m)
    → PutsChild old (old ++ n ∷ []) number None
puts_again old number n is = record { more = length-append old (n ∷ []); lists = stand }
  where
    stand : (ls : List Layout) (lists : ℕ → List Home) → AreLists ls old lists → number < length old
        → AreLists ls (old ++ n ∷ []) (with_list lists (length old) (lists number))
    stand ls lists are l =
        let m = item_there old number l in
        let e : slice_get old number ≡ Some n = m.1 ∙ ap Some (sym (is m.0 m.1)) in
        put_lists ls lists old n (lists number) are
        (raised ls lists (length old) (lists number) (lists number) n (are number n e))

pub puts_index : (old new : List Node) (around x : ℕ) → PutsNode old new (frame.Index x) (Some around)
    → PutsChild old new around (Some x)
puts_index old new around x p = record { more = p.more; lists = λ ls lists are l. p.lists ls lists are tt l }

module _ (around : ℕ) (ts : List ChildTable) where
  pub puts_none : (old : List Node) → PutsChildren old old around ts 0
  puts_none old = record {
    more = omega arith;
    lists = λ ls lists are l.
        record { after = lists; tree = are; unchanged = λ k h. refl; each = λ k ch h. absurd (omega (arith, h)) };
  }

  pub puts_more : (old mid new : List Node) (n : ℕ) (ch : ChildTable) → slice_get ts n ≡ Some ch
      → PutsChildren old mid around ts n → PutsChild mid new around ch.index → PutsChildren old new around ts (n + 1)
  puts_more old mid new n ch e h p = record {
    more = (let a = h.more in let b = p.more in omega (arith, a, b));
    lists = stand;
  }
    where
      size : ℕ
      size = length old

      at : length mid ≡ size + n
      at = h.more

      stand : (ls : List Layout) (lists : ℕ → List Home) → AreLists ls old lists → around < length old
          → IsExtended ls lists (length old) new around ts (n + 1)
      stand ls lists are l = record {
        after = after;
        tree = p.lists ls i.after i.tree inside;
        unchanged = same;
        each = each;
      }
        where
          i : IsExtended ls lists (length old) mid around ts n
          i = h.lists ls lists are l

          inside : around < length mid
          inside = omega (arith, l, at)

          new_list : List Home
          new_list = with_home ch.index (i.after around)

          after : ℕ → List Home
          after = with_list i.after (length mid) new_list

          same : (k : ℕ) → k < length old → after k ≡ lists k
          same k b = before_last i.after (length mid) new_list k (omega (arith, b, at)) ∙ i.unchanged k b

          each : (k : ℕ) (x : ChildTable) → k < n + 1 → slice_get ts k ≡ Some x
              → after (length old + k) ≡ with_home x.index (lists around)
          each k x b s = ⊎_elim below here (below_or_last k n b)
            where
              below : k < n → after (length old + k) ≡ with_home x.index (lists around)
              below m = before_last i.after (length mid) new_list (length old + k) (omega (arith, m, at))
                  ∙ i.each k x m s

              here : k ≡ n → after (length old + k) ≡ with_home x.index (lists around)
              here q =
                  let w : length old + k ≡ length mid = omega (arith, q, at) in
                  let same_child : ch ≡ x = same_Some ch x (sym e ∙ ap (slice_get ts) (sym q) ∙ s) in
                  ap after w ∙ at_last i.after (length mid) new_list
                  ∙ ap (λ (hs : List Home). with_home ch.index hs) (i.unchanged around l)
                  ∙ ap (λ (y : ChildTable). with_home y.index (lists around)) same_child
