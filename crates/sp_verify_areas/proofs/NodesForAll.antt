-- Nodes for all layouts: those that are led to the program have theirs, and each other one gets one that stands for it
-- alone.
use Rattle.std.proofs.Common.{◌≡◌, ◌≢◌, ⊎_elim, refl, ap, sym, ◌∙◌, subst, ℕ, ◌+◌, ◌<◌, if◌then◌else◌, List}
use Rattle.std.proofs.Common.{[], ◌∷◌, length, Option, Some, None, Bool, true, false, arith}
use Rattle.std.specs.Prelude.{slice_get}
use Rattle.std.proofs.lemmas.List.{length-set}
use Rattle.std.proofs.lemmas.Option.{slice_get_within, none-some, same_Some}
use Rattle.std.proofs.lemmas.Bool.{cases_eq}
use Rattle.sp_base.proofs.Facts.{below_or_last}
use Rattle.sp_code.specs.declared.code.Layout.{Layout}
use Rattle.sp_code.specs.declared.code.Parts.{Parts}
use Rattle.sp_code.specs.Machine.{layout_of}
use Rattle.sp_code.specs.Memory.{Home, OfBlock}
use Rattle.sp_verify_rules.specs.Areas.{is_led, leads_by, homes_by, single_home, block_homes}
use Rattle.sp_verify_areas.specs.declared.tree.Frame.TheVariants as frame
use Rattle.sp_verify_areas.specs.declared.tree.Grown.{Grown}
use Rattle.sp_verify_areas.specs.Around.{AreFilled}
use Rattle.sp_verify_areas.specs.Blocks.{number_from}
use Rattle.sp_verify_areas.specs.Grown.{node_at, GetsNode, HaveAllBlockNodes}
use Rattle.sp_verify_areas.specs.Tree.{with_list}
use Rattle.sp_verify_areas.proofs.BlockLaws.{place_some}
use Rattle.sp_verify_areas.proofs.TreeGrowth.{at_last, before_last}
use Rattle.sp_verify_areas.proofs.BlockNodes.{node_new, node_old}

module _ (c : Parts) where
  block_node_homes : (b : ℕ) → is_led c b ≡ true
      → block_homes c b ≡ homes_by (length c.layouts) c.layouts (layout_of c.layouts b)
  block_node_homes b e = ap (λ (t : Bool). if t then homes_by (length c.layouts) c.layouts (layout_of c.layouts b) else
      single_home
      (layout_of c.layouts b)) e

  alone_homes : (b : ℕ) → is_led c b ≡ false → block_homes c b ≡ single_home (layout_of c.layouts b)
  alone_homes b e = ap (λ (t : Bool). if t then homes_by (length c.layouts) c.layouts (layout_of c.layouts b) else
      single_home
      (layout_of c.layouts b)) e

  pub filled_led : (g : Grown) → HaveAllBlockNodes c.layouts g → AreFilled c 0 g
  filled_led g are = record {
    lists = are.led.lists;
    tree = are.led.tree;
    long = are.led.long;
    each = each;
    alone = λ j l n e f. lonely j l n e f (is_led c l.block) refl;
    full = λ j h. absurd (omega (arith, h));
  }
    where
      each : (j k : ℕ) (l : Layout) → node_at g.of j ≡ Some k → slice_get c.layouts j ≡ Some l → (k < length g.nodes)
          × (layout_of c.layouts l.block ≡ Some l → are.led.lists k ≡ block_homes c l.block)
      each j k l n e =
          let led = are.led.each j k l n e in
          let a = led.0 in
          let count = are.led.count in
          let fuel = led.1 (length c.layouts) (omega (arith, a, count)) in (
            a,
            λ f. fuel.1 ∙ ap (homes_by (length c.layouts) c.layouts) (sym f)
                ∙ sym (block_node_homes l.block (ap (leads_by (length c.layouts) c.layouts) f ∙ fuel.0)),
          )

      lonely : (j : ℕ) (l : Layout) → node_at g.of j ≡ None → slice_get c.layouts j ≡ Some l
          → layout_of c.layouts l.block ≡ Some l → (t : Bool) → is_led c l.block ≡ t → is_led c l.block ≡ false
      lonely j l n e f false s = s
      lonely j l n e f true s =
          let has = are.all j (length c.layouts) l e (ap (leads_by (length c.layouts) c.layouts) (sym f) ∙ s) in
          absurd (none-some has.0 (sym n ∙ has.1))

  fuller : (n : ℕ) (os : List (Option ℕ)) → ((j : ℕ) → j < n → (k : ℕ) × (node_at os j ≡ Some k)) → (k : ℕ)
      × (node_at os n ≡ Some k) → (j : ℕ) → j < n + 1 → (k : ℕ) × (node_at os j ≡ Some k)
  fuller n os full has j h = ⊎_elim (λ (l : j < n). full j l) (λ (e : j ≡ n). subst (λ i. (k : ℕ)
      × (node_at os i ≡ Some k)) (sym e) has) (below_or_last j n h)

  pub filled_same : (n k : ℕ) (g : Grown) → AreFilled c n g → node_at g.of n ≡ Some k → AreFilled c (n + 1) g
  filled_same n k g are e = record {
    lists = are.lists;
    tree = are.tree;
    long = are.long;
    each = are.each;
    alone = are.alone;
    full = fuller n g.of are.full (k, e);
  }

  pub filled_more : (n place : ℕ) (old new : Grown) (l : Layout) → AreFilled c n old → slice_get c.layouts n ≡ Some l
      → node_at old.of n ≡ None → number_from 0 c.layouts l.block ≡ Some place
      → GetsNode old new n (frame.Block l.block place) None → AreFilled c (n + 1) new
  filled_more n place old new l are e none p g = record {
    lists = lists;
    tree = g.puts.lists c.layouts are.lists are.tree (place_some c.layouts l.block place p) tt;
    long = ap length g.of ∙ length-set old.of n (Some size) ∙ are.long;
    each = each;
    alone = lonely;
    full = fuller n new.of before (size, here);
  }
    where
      size : ℕ
      size = length old.nodes

      new_list : List Home
      new_list = OfBlock l.block ∷ []

      lists : ℕ → List Home
      lists = with_list are.lists size new_list

      long : n < length old.of
      long = let a = are.long in let b = slice_get_within c.layouts n l e in omega (arith, a, b)

      more : length new.nodes ≡ size + 1
      more = g.puts.more

      here : node_at new.of n ≡ Some size
      here = ap (λ (os : List (Option ℕ)). node_at os n) g.of ∙ node_new old.of n size long

      away : (j : ℕ) → n ≢ j → node_at new.of j ≡ node_at old.of j
      away j d = ap (λ (os : List (Option ℕ)). node_at os j) g.of ∙ node_old old.of n size j d

      lonely : (j : ℕ) (x : Layout) → node_at new.of j ≡ None → slice_get c.layouts j ≡ Some x
          → layout_of c.layouts x.block ≡ Some x → is_led c x.block ≡ false
      lonely j x h s f = ⊎_elim (λ (q : n ≡ j). absurd (none-some size (sym (ap (node_at new.of) q ∙ h)
          ∙ here))) (λ (d : n ≢ j). are.alone j x (sym (away j d) ∙ h) s f) (cases_eq n j)

      before : (j : ℕ) → j < n → (k : ℕ) × (node_at new.of j ≡ Some k)
      before j h = let was = are.full j h in (was.0, away j (λ q. (let z : n ≡ j = q in omega (arith, z, h))) ∙ was.1)

      each : (j k : ℕ) (x : Layout) → node_at new.of j ≡ Some k → slice_get c.layouts j ≡ Some x
          → (k < length new.nodes) × (layout_of c.layouts x.block ≡ Some x → lists k ≡ block_homes c x.block)
      each j k x h s = ⊎_elim same other (cases_eq n j)
        where
          same : n ≡ j → (k < length new.nodes)
              × (layout_of c.layouts x.block ≡ Some x → lists k ≡ block_homes c x.block)
          same q =
              let is : size ≡ k = same_Some size k (sym here ∙ ap (node_at new.of) q ∙ h) in
              let lx : l ≡ x = same_Some l x (sym e ∙ ap (slice_get c.layouts) q ∙ s) in
              subst (λ z. (z < length new.nodes)
              × (layout_of c.layouts x.block ≡ Some x → lists z ≡ block_homes c x.block)) is
              (subst (λ (z : Layout). (size < length new.nodes)
              × (layout_of c.layouts z.block ≡ Some z → lists size ≡ block_homes c z.block)) lx (
                omega (arith, more),
                λ f. at_last are.lists size new_list
                    ∙ sym (alone_homes l.block (are.alone n l none e f) ∙ ap single_home f),
              ))

          other : n ≢ j → (k < length new.nodes)
              × (layout_of c.layouts x.block ≡ Some x → lists k ≡ block_homes c x.block)
          other d =
              let was = are.each j k x (sym (away j d) ∙ h) s in
              let a = was.0 in
              (omega (arith, a, more), λ f. before_last are.lists size new_list k a ∙ was.1 f)
