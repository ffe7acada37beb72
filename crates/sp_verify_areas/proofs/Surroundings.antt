-- What is around the code of an area: the nodes that a search gives stand for it, and where nothing is left to be
-- given, each instruction of one area alone has one.
use Rattle.std.proofs.Common.{◌≡◌, ◌≢◌, ◌⊎◌, inl, inr, ⊎_elim, refl, ap, sym, ◌∙◌, subst, ℕ, zero, suc, ◌+◌, ◌<◌}
use Rattle.std.proofs.Common.{if◌then◌else◌, List, [], ◌∷◌, ◌++◌, length, replicate, Option, Some, None, Bool, true}
use Rattle.std.proofs.Common.{false, arith}
use Rattle.std.specs.Prelude.{slice_get, nat_lt}
use Rattle.std.proofs.lemmas.Bool.{lt-ltb, cases_eq}
use Rattle.std.proofs.lemmas.List.{length-append, length-set}
use Rattle.std.proofs.lemmas.Option.{slice_get_within, none-some, same_Some}
use Rattle.sp_base.proofs.Facts.{below_or_last, get_before_last, get_last, item_there}
use Rattle.sp_code.specs.declared.code.ChildTable.{ChildTable}
use Rattle.sp_code.specs.declared.code.ForkTable.{ForkTable}
use Rattle.sp_code.specs.declared.code.Parts.{Parts}
use Rattle.sp_code.specs.Machine.{layout_of}
use Rattle.sp_verify_rules.specs.Areas.{Area, Body, Child, on_option, instr_at, table_named, table_at, child_of}
use Rattle.sp_verify_rules.specs.Areas.{child_at}
use Rattle.sp_verify_rules.specs.Areas.{entry}
use Rattle.sp_verify_rules.specs.Areas.{entry_of_child, index_of_child, with_home, block_homes, homes}
use Rattle.sp_verify_rules.specs.Reach.{LeadsInSteps}
use Rattle.sp_verify_rules.specs.NameRules.{LiesIn, Names, IsChild}
use Rattle.sp_verify_areas.specs.declared.owners.Owner.{Owner}
use Rattle.sp_verify_areas.specs.declared.owners.Owner.TheVariants as owner
use Rattle.sp_verify_areas.specs.declared.tree.Grown.{Grown}
use Rattle.sp_verify_areas.specs.Around.{child_node, node_of, owner_in, AreFilled, AreAttached, AttachesChildren}
use Rattle.sp_verify_areas.specs.Around.{IsExtended, IsFull}
use Rattle.sp_verify_areas.specs.Around.{IsAttachedBy, AreAllAttached, AreNodes}
use Rattle.sp_verify_areas.specs.Blocks.{number_from}
use Rattle.sp_verify_areas.specs.Grown.{node_at, none_count, GrowthStep, EachItem}
use Rattle.sp_verify_areas.specs.Only.{LiesOnlyIn}
use Rattle.sp_verify_areas.specs.Owners.{owner_of, Owns, AreOwners}
use Rattle.sp_verify_areas.specs.declared.homes.Homes.{Homes}
use Rattle.sp_verify_areas.specs.declared.tree.Node.{Node}
use Rattle.sp_verify_areas.specs.Homes.{AreHomes, IsHome}
use Rattle.sp_verify_areas.specs.Tree.{AreLists}
use Rattle.sp_verify_areas.proofs.BlockLaws.{place_none}
use Rattle.sp_verify_areas.proofs.BlockNodes.{layout_block, left_falls, node_new, node_old, nothing_at, placed_layout}
use Rattle.sp_verify_areas.proofs.BlockNodes.{length_none}
use Rattle.sp_verify_areas.proofs.OwnerClosure.{name_of, named_within, table_of}

abbrev around_of : Area → Area
around_of (Body b) = Body b
around_of (Child a p k) = a

module _ (c : Parts) where
  goes_then : (n p q r m : ℕ) → LeadsInSteps c n p q → LeadsInSteps c m q r → (k : ℕ) × LeadsInSteps c k p r
  goes_then zero p q r m e h = (m, subst (λ z. LeadsInSteps c m z r) (sym e) h)
  goes_then (suc n) p q r m g h = let t = goes_then n g.0 q r m g.2 h in (suc t.0, (g.0, g.1, t.1))

  -- the entry of a child that alone has an instruction in its code lies in it alone
  pub entry_only : (a : Area) (p q k : ℕ) (ch : ChildTable) → LiesOnlyIn c p (Child a q k) → child_at c q k ≡ Some ch
      → LiesOnlyIn c ch.entry (Child a q k)
  entry_only a p q k ch ((area, inside), alone) e = ((area, record { steps = 0; way = ap entry_of_child e }), only)
    where
      only : (b : Area) → LiesIn c ch.entry b → b ≡ Child a q k
      only b l =
          let on = subst (λ z. LeadsInSteps c inside.steps z p) (ap entry_of_child e) inside.way in
          let w = goes_then l.1.steps (entry c b) ch.entry p inside.steps l.1.way on in
          alone b (l.0, record { steps = w.0; way = w.1 })

  -- and its fork lies in the code of the area around alone
  pub fork_only : (a : Area) (p q k : ℕ) → LiesOnlyIn c p (Child a q k) → LiesOnlyIn c q a
  fork_only a p q k (((area, at_fork, child), inside), alone) = ((area, at_fork), only)
    where
      only : (b : Area) → LiesIn c q b → b ≡ a
      only b l =
          let e : Child b q k ≡ Child a q k = alone (Child b q k)
          ((l.0, l.1, child), record { steps = inside.steps; way = inside.way }) in
          ap around_of e

  -- ---- owners

  pub owner_is : (p : ℕ) (o : Owner) (a : Area) → Owns c p o → LiesOnlyIn c p a → o ≡ owner_of a
  owner_is p owner.Nobody a h l = absurd (h a l.0)
  owner_is p (owner.Block b) a h l = sym h.owner_is ∙ ap owner_of (l.1 h.area h.lies)
  owner_is p (owner.Child q k) a h l = sym h.owner_is ∙ ap owner_of (l.1 h.area h.lies)
  owner_is p owner.Several a h l = absurd (h.apart (l.1 h.first h.lies ∙ sym (l.1 h.second h.too)))

  pub owner_there : (os : List Owner) (p : ℕ) → AreOwners c os → p < length c.instrs → Owns c p (owner_in os p)
  owner_there os p are l =
      let o = item_there os p (let s = are.0 in omega (arith, s, l)) in
      subst (Owns c p) (sym (ap (λ (u : Option Owner). on_option owner.Nobody u (λ x. x)) o.1)) (are.1 p o.0 o.1)

  -- an owner that has a node is that of one area alone
  one_area : (size : ℕ) (blocks tables : List (Option ℕ)) (p n : ℕ) (o : Owner) → Owns c p o
      → node_of c size blocks tables o ≡ Some n → (a : Area) × LiesOnlyIn c p a × (owner_of a ≡ o)
  one_area size blocks tables p n owner.Nobody h e = absurd (none-some n e)
  one_area size blocks tables p n (owner.Block b) h e = (h.area, (h.lies, h.only), h.owner_is)
  one_area size blocks tables p n (owner.Child q k) h e = (h.area, (h.lies, h.only), h.owner_is)
  one_area size blocks tables p n owner.Several h e = absurd (none-some n e)

  -- ---- nodes

  child_there : (t q k : ℕ) (ch : ChildTable) → Names c t q → IsChild c t k ch → child_at c q k ≡ Some ch
  child_there t q k ch n i = ap (λ (o : Option ℕ). child_of (table_at c.forks o) k) n ∙ i

  module _ (blocks : List (Option ℕ)) where
    pub node_right : (g : Grown) (are : AreAttached c blocks g) (a : Area) (p n : ℕ) → LiesOnlyIn c p a
        → node_of c (length g.nodes) blocks g.of (owner_of a) ≡ Some n
        → (n < length g.nodes) × (are.lists n ≡ homes c a)
    node_right g are (Body b) p n l e = go (number_from 0 c.layouts b) refl e
      where
        go : (u : Option ℕ) → number_from 0 c.layouts b ≡ u → on_option None u (λ k. node_at blocks k) ≡ Some n
            → (n < length g.nodes) × (are.lists n ≡ homes c (Body b))
        go None s e = absurd (none-some n e)
        go (Some k) s e = are.block b k n s e
    node_right g are (Child a q k) p n l e = at (table_named (instr_at c q)) refl e
      where
        last : (t base : ℕ) → Names c t q → node_at g.of t ≡ Some base → (b : Bool)
            → (if b then Some (base + k) else None) ≡ Some n → (n < length g.nodes)
            × (are.lists n ≡ homes c (Child a q k))
        last t base s w false e = absurd (none-some n e)
        last t base s w true e =
            let (((_, _, (ch, there)), _), _) = l in
            let i : IsChild c t k ch = sym (ap (λ (z : Option ℕ). child_of (table_at c.forks z) k) s) ∙ there in
            let h = are.child t base k ch w i in
            let is = same_Some (base + k) n e in
            (subst (λ z. z < length g.nodes) is h.0, ap are.lists (sym is) ∙ h.1 q a s (entry_only a p q k ch l there))

        in_table : (t : ℕ) → Names c t q → (v : Option ℕ) → node_at g.of t ≡ v
            → on_option None v (λ base. child_node (length g.nodes) base k) ≡ Some n → (n < length g.nodes)
            × (are.lists n ≡ homes c (Child a q k))
        in_table t s None w e = absurd (none-some n e)
        in_table t s (Some base) w e = last t base s w (nat_lt (base + k) (length g.nodes)) e

        at : (u : Option ℕ) → table_named (instr_at c q) ≡ u
            → on_option None u (λ t. on_option None (node_at g.of t) (λ base. child_node (length g.nodes) base k))
            ≡ Some n
            → (n < length g.nodes) × (are.lists n ≡ homes c (Child a q k))
        at None s e = absurd (none-some n e)
        at (Some t) s e = in_table t s (node_at g.of t) refl e

    module _ (old new : Grown) (are : AreAttached c blocks old) (t q around : ℕ) (tb : ForkTable) (o : Owner)
        (names : Names c t q) (owns : Owns c q o)
        (node : node_of c (length old.nodes) blocks old.of o ≡ Some around) (none : node_at old.of t ≡ None)
        (there : slice_get c.forks t ≡ Some tb) (g : AttachesChildren old new t around tb.children) where
      size : ℕ
      size = length old.nodes

      long : t < length old.of
      long = let a = are.long in let b = slice_get_within c.forks t tb there in omega (arith, a, b)

      more : length new.nodes ≡ length old.nodes + length tb.children
      more = g.puts.more

      one : (a : Area) × LiesOnlyIn c q a × (owner_of a ≡ o)
      one = one_area (length old.nodes) blocks old.of q around o owns node

      alone : LiesOnlyIn c q one.0
      alone = one.1

      lies : LiesIn c q one.0
      lies = alone.0

      right : (around < length old.nodes) × (are.lists around ≡ homes c one.0)
      right = node_right old are one.0 q around one.1 (ap (node_of c (length old.nodes) blocks old.of) one.2 ∙ node)

      extended : IsExtended c.layouts are.lists (length old.nodes) new.nodes around tb.children (length tb.children)
      extended = g.puts.lists c.layouts are.lists are.tree right.0

      abbrev IsRight : ℕ → ℕ → ℕ → ChildTable → Type 0
      IsRight u base k ch = (base + k < length new.nodes)
          × ((r : ℕ) (a : Area) → Names c u r → LiesOnlyIn c ch.entry (Child a r k)
          → extended.after (base + k) ≡ homes c (Child a r k))

      in_this : (k : ℕ) (ch : ChildTable) → IsChild c t k ch → IsRight t (length old.nodes) k ch
      in_this k ch i =
          let e : slice_get tb.children k ≡ Some ch = sym (ap (λ (u : Option ForkTable). child_of u k) there) ∙ i in
          let l = slice_get_within tb.children k ch e in (
            omega (arith, l, more),
            λ r a n only.
                let same : Child one.0 q k ≡ Child a r k = only.1 (Child one.0 q k) (
                  (lies.0, lies.1, (ch, child_there t q k ch names i)),
                  record { steps = 0; way = ap entry_of_child (child_there t q k ch names i) },
                ) in
                extended.each k ch l e ∙ ap (with_home ch.index) (right.1 ∙ ap (homes c) (ap around_of same))
                ∙ sym (ap (λ (u : Option ChildTable). with_home (index_of_child u) (homes c a))
                (child_there t r k ch n i)),
          )

      in_other : (u base k : ℕ) (ch : ChildTable) → node_at old.of u ≡ Some base → IsChild c u k ch
          → IsRight u base k ch
      in_other u base k ch e i =
          let was = are.child u base k ch e i in
          let a = was.0 in
          (omega (arith, a, more), λ r a n only. extended.unchanged (base + k) was.0 ∙ was.1 r a n only)

      child : (u base k : ℕ) (ch : ChildTable) → node_at new.of u ≡ Some base → IsChild c u k ch → IsRight u base k ch
      child u base k ch e i = ⊎_elim same other (cases_eq t u)
        where
          same : t ≡ u → IsRight u base k ch
          same s =
              let is : length old.nodes ≡ base = same_Some (length old.nodes) base
              (sym (node_new old.of t (length old.nodes) long)
              ∙ ap (λ (os : List (Option ℕ)). node_at os t) (sym g.of) ∙ ap (node_at new.of) s ∙ e) in
              subst (λ z. IsRight u z k ch) is
              (subst (λ z. IsRight z (length old.nodes) k ch) s
              (in_this k ch (subst (λ z. IsChild c z k ch) (sym s) i)))

          other : t ≢ u → IsRight u base k ch
          other d = in_other u base k ch (sym (node_old old.of t (length old.nodes) u d)
              ∙ ap (λ (os : List (Option ℕ)). node_at os u) (sym g.of) ∙ e) i

      pub attached_more : AreAttached c blocks new
      attached_more = record {
        lists = extended.after;
        tree = extended.tree;
        long = ap length g.of ∙ length-set old.of t (Some (length old.nodes)) ∙ are.long;
        block = λ b k n s e. (let was = are.block b k n s e in let l = was.0 in
            (omega (arith, l, more), extended.unchanged n l ∙ was.1));
        child = child;
      }

      pub attached_step : (os : List Owner)
          → GrowthStep (AreAttached c blocks) old new (IsAttachedBy c os blocks q) true
      attached_step os = record {
        just = attached_more;
        less = λ z. (let f = left_falls old.of t (length old.nodes) long none in let s = ap none_count g.of in omega
            (arith, f, s));
        unchanged = λ z. absurd (cc z);
      }

    -- ---- the beginning and the end

    pub attached_has : (os : List Owner) (q t base : ℕ) (g : Grown) → table_named (instr_at c q) ≡ Some t
        → node_at g.of t ≡ Some base → IsAttachedBy c os blocks q g
    attached_has os q t base g e s u n names l h = (
      base,
      subst (λ z. node_at g.of z ≡ Some base) (same_Some t u (sym e
          ∙ names)) s,
    )

    pub attached_past : (os : List Owner) (q t : ℕ) (g : Grown) → table_named (instr_at c q) ≡ Some t
        → slice_get c.forks t ≡ None → IsAttachedBy c os blocks q g
    attached_past os q t g e s u n names l h =
        let m = item_there c.forks u l in
        absurd (none-some m.0 (sym s ∙ ap (slice_get c.forks) (same_Some t u (sym e ∙ names)) ∙ m.1))

    pub all_attached : (os : List Owner) (g : Grown) → AreAttached c blocks g
        → EachItem (IsAttachedBy c os blocks) (length c.instrs) g → AreAllAttached c os blocks g
    all_attached os g are each = record {
      attached = are;
      all = λ q t n names. each q (named_within c t q names) t n names;
    }

    pub node_known : (os : List Owner) (g : Grown) → AreOwners c os → IsFull c.layouts blocks
        → AreAllAttached c os blocks g
        → (a : Area) (p : ℕ) → LiesOnlyIn c p a
        → (n : ℕ) × (node_of c (length g.nodes) blocks g.of (owner_of a) ≡ Some n)
    node_known os g owners full are (Body b) p (((l, there), _), _) = go (number_from 0 c.layouts b) refl
      where
        go : (u : Option ℕ) → number_from 0 c.layouts b ≡ u → (n : ℕ)
            × (on_option None (number_from 0 c.layouts b) (λ k. node_at blocks k) ≡ Some n)
        go None s = absurd (none-some l (sym (place_none 0 c.layouts b s) ∙ there))
        go (Some k) s =
            let m = placed_layout c.layouts b k s in
            let n = full k (slice_get_within c.layouts k m.0 m.1) in
            (n.0, ap (λ (u : Option ℕ). on_option None u (λ k. node_at blocks k)) s ∙ n.1)
    node_known os g owners full are (Child a q k) p l = known
        (node_known os g owners full are a q (fork_only a p q k l))
      where
        known : (n : ℕ) × (node_of c (length g.nodes) blocks g.of (owner_of a) ≡ Some n) → (n : ℕ)
            × (node_of c (length g.nodes) blocks g.of (owner.Child q k) ≡ Some n)
        known m =
            let (((_, _, (ch, there)), _), _) = l in
            let t = name_of (table_named (instr_at c q)) k c.forks ch there in
            let i : IsChild c t.0 k ch = sym (ap (λ (z : Option ℕ). child_of (table_at c.forks z) k) t.1) ∙ there in
            let only = fork_only a p q k l in
            let o = owner_is q (owner_in os q) a (owner_there os q owners (named_within c t.0 q t.1)) only in
            let base = are.all q t.0 m.0 t.1 (table_of t.0 k c.forks ch i)
            (ap (node_of c (length g.nodes) blocks g.of) o ∙ m.1) in
            let h = are.attached.child t.0 base.0 k ch base.1 i in (
              base.0 + k,
              ap (λ (u : Option ℕ). on_option None u
                  (λ t. on_option None (node_at g.of t) (λ base. child_node (length g.nodes) base k))) t.1
                  ∙ ap (λ (u : Option ℕ). on_option None u (λ base. child_node (length g.nodes) base k)) base.1
                  ∙ ap (λ (b : Bool). if b then Some (base.0 + k) else None) (lt-ltb (base.0 + k) (length g.nodes) h.0),
            )

    pub nodes_more : (os : List Owner) (g : Grown) (at : List (Option ℕ)) (n : ℕ) (o : Option ℕ)
        → AreNodes c os blocks g at n → o ≡ node_of c (length g.nodes) blocks g.of (owner_in os n)
        → AreNodes c os blocks g (at ++ o ∷ []) (n + 1)
    nodes_more os g at n o are e = record {
      size =
          (let a = length-append at (o ∷ []) in let s = are.size in omega (arith, a, s));
      each = λ p l. each p l
          (below_or_last p n l);
    }
      where
        each : (p : ℕ) → p < n + 1 → (p < n) ⊎ (p ≡ n)
            → slice_get (at ++ o ∷ []) p ≡ Some (node_of c (length g.nodes) blocks g.of (owner_in os p))
        each p l (inl h) = get_before_last at o p (let s = are.size in omega (arith, s, h)) ∙ are.each p h
        each p l (inr h) = ap (slice_get (at ++ o ∷ [])) (h ∙ sym are.size) ∙ get_last at o
            ∙ ap Some (e ∙ ap (λ i. node_of c (length g.nodes) blocks g.of (owner_in os i)) (sym h))

    pub homes_are : (os : List Owner) (g : Grown) (h : Homes) → AreOwners c os → IsFull c.layouts blocks
        → AreAllAttached c os blocks g → h.nodes ≡ g.nodes → AreNodes c os blocks g h.at (length os) → AreHomes c h
    homes_are os g h owners full are en nodes = record {
      lists = are.attached.lists;
      tree = subst (λ (ns : List Node). AreLists c.layouts ns are.attached.lists) (sym en) are.attached.tree;
      each = each;
    }
      where
        each : (p : ℕ) (a : Area) → p < length c.instrs → LiesOnlyIn c p a → IsHome c h are.attached.lists p a
        each p a l only =
            let n = node_known os g owners full are a p only in
            let right = node_right g are.attached a p n.0 only n.1 in
            let o = owner_is p (owner_in os p) a (owner_there os p owners l) only in
            record {
              node = n.0;
              node_is = nodes.each p (let s = owners.0 in omega (arith, s, l))
                  ∙ ap Some (ap (node_of c (length g.nodes) blocks g.of) o ∙ n.1);
              within = subst (λ (ns : List Node). n.0 < length ns) (sym en) right.0;
              stands = right.1;
            }

  -- the blocks alone, and no table yet
  pub attached_start : (g new : Grown) → AreFilled c (length c.layouts) g → new.nodes ≡ g.nodes
      → new.of ≡ replicate (length c.forks) None → AreAttached c g.of new
  attached_start g new are en eo = record {
    lists = are.lists;
    tree = subst (λ (ns : List Node). AreLists c.layouts ns are.lists) (sym en) are.tree;
    long = ap length eo ∙ length_none (length c.forks);
    block = block;
    child = λ t base k ch e i. absurd
        (nothing_at (length c.forks) t base (ap (λ (os : List (Option ℕ)). node_at os t) (sym eo) ∙ e));
  }
    where
      block : (b k n : ℕ) → number_from 0 c.layouts b ≡ Some k → node_at g.of k ≡ Some n → (n < length new.nodes)
          × (are.lists n ≡ block_homes c b)
      block b k n s e =
          let m = placed_layout c.layouts b k s in
          let h = are.each k n m.0 e m.1 in
          let same = layout_block c.layouts b m.0 m.2 in (
            subst (λ (ns : List Node). n < length ns) (sym en) h.0,
            h.1 (ap (layout_of c.layouts) same ∙ m.2)
                ∙ ap (block_homes c) same,
          )
