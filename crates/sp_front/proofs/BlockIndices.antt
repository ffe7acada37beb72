-- The foralls of each block have numbers of the block's own indices.
use Rattle.std.proofs.Common.{◌≡◌, refl, ap, sym, ◌∙◌, subst, ℕ, zero, suc, ◌+◌, ◌≤◌, List, [], ◌∷◌, ◌++◌, Option, Some}
use Rattle.std.proofs.Common.{Bool, true, false, length, slice_get, arith}
use Rattle.std.specs.Prelude.{nat_le, map}
use Rattle.std.proofs.lemmas.Option.{same_Some}
use Rattle.sp_tree.specs.declared.checked.Role.TheVariants as role
use Rattle.sp_tree.specs.NameFirst.{both_lists, all_at}
use Rattle.sp_tree.specs.Scopes as names
use Rattle.sp_tree.specs.NameWalk as w
use Rattle.sp_tree.specs.PlainNamed as n
use Rattle.sp_tree.specs.PlainSyntax.{Variable, Index}
use Rattle.sp_tree.specs.Plain as plain
use Rattle.sp_front.proofs.NoBreachInParts.{none_in_parts}
use Rattle.sp_tree.specs.declared.checked.Variable as checked
use Rattle.sp_tree.specs.Scopes.{Local, inner_env, local_of_inner, next_variable}
use Rattle.sp_tree.specs.NameWalk.{blocks_around}
use Rattle.sp_tree.specs.NamedTree.{named_statement, indices}
use Rattle.sp_tree.specs.PlainSyntax.{Statement}
use Rattle.sp_front.proofs.DeclarationNumbers.{statement_adds}
use Rattle.sp_tree.specs.Scopes.{next_block}
use Rattle.sp_tree.specs.NameWalk.{formals_local, title_local, heading_local, parts_local, part_local}
use Rattle.sp_tree.specs.NamedTree.{formals_named, answer_named, parts_named, part_named}
use Rattle.sp_tree.specs.PlainSyntax.{Part, Const, Kind, Var, Proc, Parts, NoPart, Declare}
use Rattle.sp_front.proofs.DeclarationNumbers.{answer_adds, parts_move, part_moves}
use Rattle.sp_front.proofs.NameStatements.{HoldsVariables, holds_parts}
use Rattle.sp_tree.specs.Bare.{variable_of}
use Rattle.sp_front.proofs.Blocks.{none_in_pieces, title_moves, formals_move, head_blocks, head_number}
use Rattle.sp_tree.specs.PlainSyntax as syntax
use Rattle.sp_tree.specs.NameFirst.{broken_name_rules}
use Rattle.sp_tree.specs.Scopes.{empty_local, standard_scope}
use Rattle.sp_types.specs.Tables.{env_of, numbers_of}
use Rattle.sp_types.specs.TypeWalk.{starts_of, blocks_after}
use Rattle.sp_types.specs.CheckedTree.{checked_variables, or_zero}
use Rattle.sp_front.specs.IndexNumbers.{index_after, IsNumbered}
use Rattle.sp_front.specs.TypedBlocks.{AreBlocksTyped}
use Rattle.sp_front.specs.ForEach.{HoldsOfEach}
use Rattle.sp_front.proofs.Variables.{indices_each}
use Rattle.sp_front.proofs.IndexNumbers.{statement_numbered}
use Rattle.sp_front.proofs.IndexTypes.{AreSpans, blocks_typed}
use Rattle.sp_front.proofs.Program.{named, tree, held}
use Rattle.sp_front.proofs.Tree.{types_length}

-- all are indices of this block
abbrev AllOf : ℕ → List checked.Variable → Type 0
AllOf b = HoldsOfEach (λ (u : checked.Variable). (u.block ≡ b) × (u.role ≡ role.Index))

indices_of_ : (block : ℕ) (s : Statement) → AllOf block (indices block s)
indices_of_ block s = indices_each (λ (u : checked.Variable). (u.block ≡ block) × (u.role ≡ role.Index)) block
    (λ x. (refl, refl)) s

module _ (p : plain.Program) (m : ℕ) where
  -- a number between is that of one of them
  between : (k block : ℕ) (us : List checked.Variable) → HoldsVariables p m k us → AllOf block us → (y : ℕ) → k ≤ y
      → suc y ≤ k + length us → (v : plain.Variable) × (slice_get p.variables y ≡ Some v) × (v.block ≡ block)
      × (v.role ≡ role.Index)
  between k block [] h a y l r = absurd (omega (arith, l, r))
  between k block (u ∷ us) ((v, v_at, role_is, block_is), others) ((of_block, of_role), others_too) y l r =
      go (λ c. between (suc k) block us others others_too y c (omega (arith, r))) (nat_le y k) refl
    where
      yes : nat_le y k ≡ true → y ≤ k
      yes e = Prim.grind (arith, e)

      not_ : nat_le y k ≡ false → suc k ≤ y
      not_ e = Prim.grind (arith, e)

      go : (suc k ≤ y → (v : plain.Variable) × (slice_get p.variables y ≡ Some v) × (v.block ≡ block)
          × (v.role ≡ role.Index)) → (b : Bool) → nat_le y k ≡ b → (v : plain.Variable)
          × (slice_get p.variables y ≡ Some v) × (v.block ≡ block) × (v.role ≡ role.Index)
      go next true e = let z = yes e in (
        v,
        subst (λ w. slice_get p.variables w ≡ Some v) (let w : k ≡ y = omega (arith, l, z) in w) v_at,
        block_is
            ∙ of_block,
        role_is ∙ of_role,
      )
      go next false e = next (not_ e)

  spans_join : (k : ℕ) (xs ys : List n.Block) → AreSpans p k xs → AreSpans p (k + length xs) ys
      → AreSpans p k (xs ++ ys)
  spans_join k [] ys x y = subst (λ z. AreSpans p z ys) (let z : k + 0 ≡ k = omega arith in z) y
  spans_join k (b ∷ xs) ys x y = (
    x.0,
    spans_join (suc k) xs ys x.1
        (subst (λ z. AreSpans p z ys) (let z : k + suc (length xs) ≡ suc k + length xs = omega arith in z) y),
  )

  -- the statement part of a block
  body_spans : (around : List names.Scope) (l : Local) (block : ℕ) (body : Statement)
      → w.statement_sites [] both_lists all_at around l body ≡ []
      → HoldsVariables p m (next_variable l.counts) (indices block body)
      → (lo : ℕ) × IsNumbered lo (named_statement around l body)
      × ((y : ℕ) → lo ≤ y → suc y ≤ index_after lo (named_statement around l body) → (v : plain.Variable)
      × (slice_get p.variables y ≡ Some v) × (v.block ≡ block) × (v.role ≡ role.Index))
  body_spans around l block body calm holds =
      let r = statement_numbered around l body calm in
      let e = r.1 in
      let a = (statement_adds block around l body calm).variables_are in (
        next_variable l.counts,
        r.0,
        λ y x z. between (next_variable l.counts) block (indices block body) holds
            (indices_of_ block body) y x (omega (arith, z, e, a)),
      )

  mutual
    pub parts_spans : (around : List names.Scope) (l : Local) (ps : Parts)
        → w.parts_sites [] both_lists all_at around l ps ≡ []
        → HoldsVariables p m (next_variable l.counts) (parts_named around l ps).variables
        → AreSpans p (next_block l.counts) (parts_named around l ps).blocks
    parts_spans around l NoPart calm holds = tt
    parts_spans around l (Declare q rest) calm holds =
        let next = part_local l q in
        let two = none_in_parts (w.part_sites [] both_lists all_at around l q)
        (w.parts_sites [] both_lists all_at around next rest) calm in
        let a = part_named around l q in
        let b = parts_named around next rest in
        let moved = part_moves around l q two.0 in
        let h = holds_parts p m (next_variable l.counts) a.variables b.variables holds in
        spans_join (next_block l.counts) a.blocks b.blocks (part_spans around l q two.0 h.0)
        (subst (λ z. AreSpans p z b.blocks) moved.blocks_are
        (parts_spans around next rest two.1 (subst (λ z. HoldsVariables p m z b.variables) (sym moved.variables_are)
        h.1)))

    part_spans : (around : List names.Scope) (l : Local) (q : Part) → w.part_sites [] both_lists all_at around l q ≡ []
        → HoldsVariables p m (next_variable l.counts) (part_named around l q).variables
        → AreSpans p (next_block l.counts) (part_named around l q).blocks
    part_spans around l (Const x c) calm holds = tt
    part_spans around l (Kind x k) calm holds = tt
    part_spans around l (Var xs t) calm holds = tt
    part_spans around l (Proc x fs answer parts body) calm holds =
        let f = next_block l.counts in
        let k = next_variable l.counts in
        let env = inner_env around l in
        let title = title_local l x fs answer in
        let in_ = blocks_around around title in
        let head = heading_local l x fs answer in
        let formals = formals_local (local_of_inner f 0 title) fs in
        let (_, _, parts_calm, body_calm) = none_in_pieces around l x fs answer parts body calm in
        let av = formals_named env f fs in
        let bv = answer_named env f x answer in
        let inner = parts_named in_ head parts in
        let d = indices head.block body in
        let v1 = holds_parts p m k av (bv ++ (inner.variables ++ d)) holds in
        let v2 = holds_parts p m (k + length av) bv (inner.variables ++ d) v1.1 in
        let v3 = holds_parts p m (k + length av + length bv) inner.variables d v2.1 in
        let t2 = (title_moves around l x fs answer parts body calm).variables_are in
        let f2 = (formals_move around l x fs answer parts body calm).variables_are in
        let a2 = (answer_adds formals env f x answer).variables_are in
        let p2 = (parts_move in_ head parts parts_calm).variables_are in
        let at_head : k + length av + length bv ≡ next_variable head.counts = omega (arith, t2, f2, a2) in
        let at_body : k + length av + length bv + length inner.variables
        ≡ next_variable (parts_local head parts).counts = omega (arith, t2, f2, a2, p2) in
        let number = head_number around l x fs answer parts body calm in
        let blocks_ = head_blocks around l x fs answer parts body calm in (
          body_spans in_ (parts_local head parts) f body body_calm
              (subst (λ z. HoldsVariables p m (next_variable (parts_local head parts).counts) (indices z body)) number
              (subst (λ z. HoldsVariables p m z d) at_body v3.1)),
          subst (λ z. AreSpans p z inner.blocks) blocks_
              (parts_spans in_ head parts parts_calm (subst (λ z. HoldsVariables p m z inner.variables) at_head v3.0)),
        )

-- ---- the program

module _ (s : syntax.Program) (calm : broken_name_rules s ≡ []) where
  abbrev std : List names.Scope
  std = standard_scope ∷ []

  abbrev inner_ : n.Program
  inner_ = parts_named std empty_local s.block.parts

  calm_two : (w.parts_sites [] both_lists all_at std empty_local s.block.parts ≡ [])
      × (w.statement_sites [] both_lists all_at std (parts_local empty_local s.block.parts) s.block.body ≡ [])
  calm_two = none_in_parts (w.parts_sites [] both_lists all_at std empty_local s.block.parts)
      (w.statement_sites [] both_lists all_at std (parts_local empty_local s.block.parts) s.block.body)
      (none_in_parts (w.files_sites [] both_lists all_at [] s.heading)
      (both_lists (w.parts_sites [] both_lists all_at std empty_local s.block.parts)
      (w.statement_sites [] both_lists all_at std (parts_local empty_local s.block.parts) s.block.body)) calm).1

  abbrev p_ : plain.Program
  p_ = tree s calm

  abbrev n_ : n.Program
  n_ = named s calm

  pub spans : AreSpans p_ 0 n_.blocks
  spans =
      let m_ = length n_.constants in
      let (_, (_, rest)) = held s calm in
      let vs = holds_parts p_ m_ 2 inner_.variables (indices 0 s.block.body) rest in
      let moved = (parts_move std empty_local s.block.parts calm_two.0).variables_are in (
        body_spans p_ m_ std (parts_local empty_local s.block.parts) 0 s.block.body calm_two.1
            (subst (λ z. HoldsVariables p_ m_ z (indices 0 s.block.body)) (sym moved) vs.1),
        parts_spans p_ m_ std empty_local s.block.parts calm_two.0 vs.0,
      )

  abbrev last : List (Option ℕ)
  last = (blocks_after (env_of n_) (starts_of n_.blocks) n_.blocks).variables

  pub has_ : (ks : List (Option ℕ)) (us : List checked.Variable) (x : ℕ) (v : plain.Variable) (o : Option ℕ)
      → slice_get (map variable_of (checked_variables ks us)) x ≡ Some v → slice_get ks x ≡ Some o → v.kind ≡ or_zero o
  has_ ks [] x v o e f = absurd (cc e)
  has_ [] (u ∷ us) x v o e f = absurd (cc e)
  has_ (k ∷ ks) (u ∷ us) zero v o e f = sym (ap (λ (z : plain.Variable). z.kind)
      (same_Some (variable_of (record u { kind = or_zero k })) v e)) ∙ ap or_zero (same_Some k o f)
  has_ (k ∷ ks) (u ∷ us) (suc x) v o e f = has_ ks us x v o e f

  pub room_ : (ks : List (Option ℕ)) (us : List checked.Variable) (x : ℕ) (v : plain.Variable)
      → slice_get (map variable_of (checked_variables ks us)) x ≡ Some v → suc x ≤ length us
  room_ ks [] x v e = absurd (cc e)
  room_ [] (u ∷ us) x v e = absurd (cc e)
  room_ (k ∷ ks) (u ∷ us) zero v e = omega arith
  room_ (k ∷ ks) (u ∷ us) (suc x) v e = let l = room_ ks us x v e in omega (arith, l)

  -- each index has in the tree the type of its forall's first limit
  pub indices_typed : AreBlocksTyped p_ (env_of n_) (starts_of n_.blocks) n_.blocks
  indices_typed = blocks_typed p_ last (λ x v o at l. has_ last n_.variables x v o at l) (length n_.variables)
      (λ x v at. room_ last n_.variables x v at) 0 (env_of n_) (starts_of n_.blocks) n_.blocks
      (types_length (numbers_of n_) n_.variables) spans refl
