-- What the phase of names gives of a program that breaks no rule of names.
use Rattle.std.proofs.Common.{◌≡◌, inl, refl, ap, sym, ◌∙◌, subst, ℕ, zero, suc, ◌+◌, ◌≤◌, ◌==◌, List, [], ◌∷◌, ◌++◌}
use Rattle.std.proofs.Common.{Option, Some, None, Bool, true, false, if◌then◌else◌, length, slice_get, arith, eq-eqb}
use Rattle.std.specs.Prelude.{◌&&◌}
use Rattle.std.proofs.lemmas.Bool.{eqb-true}
use Rattle.std.proofs.lemmas.List.{append-nil}
use Rattle.std.proofs.lemmas.Option.{none-some, same_Some}
use Rattle.sp_tree.specs.declared.checked.Role.{Role}
use Rattle.sp_tree.specs.declared.checked.Role.TheVariants as role
use Rattle.sp_tree.specs.declared.syntax.Name.{Name}
use Rattle.sp_tree.specs.NameFirst.{both_lists, all_at}
use Rattle.sp_tree.specs.Scopes as names
use Rattle.sp_tree.specs.Scopes.{Env}
use Rattle.sp_tree.specs.NameWalk as w
use Rattle.sp_tree.specs.NameWalk.{role_of}
use Rattle.sp_tree.specs.PlainNamed as n
use Rattle.sp_tree.specs.PlainSyntax.{Variable, Index}
use Rattle.sp_tree.specs.Plain as plain
use Rattle.sp_code.specs.Scopes.{OfBlock, is_block, level}
use Rattle.sp_front.specs.Visible.{AreValid, IsChain}
use Rattle.sp_front.proofs.NoBreachInParts.{none_in_parts}
use Rattle.sp_tree.specs.declared.checked.Variable as checked
use Rattle.sp_tree.specs.Scopes.{Local, inner_env, local_of_inner, next_variable}
use Rattle.sp_tree.specs.NamedTree.{named_statement, indices}
use Rattle.sp_tree.specs.PlainSyntax.{Statement}
use Rattle.sp_front.specs.ScopeFacts.{InStatement}
use Rattle.sp_tree.specs.declared.syntax.SynFormal.{SynFormal}
use Rattle.sp_tree.specs.Scopes.{next_block}
use Rattle.sp_tree.specs.NameWalk.{formals_local, title_local, answer_local, heading_local}
use Rattle.sp_tree.specs.NameWalk.{parts_local}
use Rattle.sp_tree.specs.NamedTree.{formals_named, numbers, answer_named, answer_of, parts_named}
use Rattle.sp_tree.specs.PlainSyntax.{Parts}
use Rattle.sp_types.specs.Tables.{answer_variable}
use Rattle.sp_front.specs.PartsInTables.{HoldsBlocks, AreScoped, AreBelow}
use Rattle.sp_front.proofs.DeclarationNumbers.{parts_move}
use Rattle.sp_front.proofs.NameStatements.{HoldsVariables, holds_parts, IsPlace, statement_in}
use Rattle.sp_tree.specs.NamedTree.{Inside, procedure_block, program_named}
use Rattle.sp_tree.specs.Cells.{variables_of}
use Rattle.sp_code.specs.Scopes.{as_list}
use Rattle.sp_tree.specs.TreeShape.{is_parameter, is_answer, numbers_with_role}
use Rattle.sp_tree.specs.Scopes.{empty_local, standard_scope}
use Rattle.sp_tree.specs.NameFirst.{broken_name_rules}
use Rattle.sp_tree.specs.NamedTree.{program_block, inside_named}
use Rattle.sp_tree.specs.PlainSyntax as syntax
use Rattle.sp_types.specs.Tables.{env_of}
use Rattle.sp_types.specs.TypeWalk.{starts_of, blocks_after}
use Rattle.sp_types.specs.CheckedTree.{program_checked, checked_variables}
use Rattle.sp_tree.specs.Bare.{without_places}
use Rattle.sp_tree.proofs.SetCertificates.{answer_is}
use Rattle.sp_front.proofs.Headings.{own, in_blocks, among_own, own_join, own_none, own_all, blocks_below, formals_of_}
use Rattle.sp_front.proofs.Headings.{formals_fit, answer_of_, answer_fit, indices_fit, same_formals, parts_own}
use Rattle.sp_front.proofs.Blocks.{parts_below, parts_scoped, IsOpen}
use Rattle.sp_front.proofs.Tree.{checked_own, variables_held, blocks_held, block_from, parent_below, steps, top}
use Rattle.sp_front.proofs.Tree.{final_length, starts_length}

abbrev Heading : (Role → Bool) → (n.Block → List ℕ) → Type 0
Heading fits g = (l : Local) (x : Name) (fs : List SynFormal) (answer : Option Name) (i : Inside)
    → next_variable (formals_local (local_of_inner (next_block l.counts) 0 (title_local l x fs answer)) fs).counts
    ≡ next_variable l.counts + length (formals_named (inner_env [] l) (next_block l.counts) fs)
    → (env : Env) → env.local ≡ l → i.answer ≡ (heading_local l x fs answer).answer
    → own fits (next_block l.counts) (next_variable l.counts)
    (formals_named env (next_block l.counts) fs ++ answer_named env (next_block l.counts) x answer)
    ≡ g (procedure_block env x fs answer i)

parameters_heading : Heading is_parameter (λ (b : n.Block). b.formals)
parameters_heading l x fs answer i at env e ie =
    let f = next_block l.counts in
    let k = next_variable l.counts in
    let a = formals_named env f fs in
    let b = answer_named env f x answer in
    own_join is_parameter f k a b ∙ ap (λ z. z ++ own is_parameter f (k + length a) b)
    (own_all is_parameter f k a (formals_of_ env f fs) (formals_fit is_parameter true is_formal env f fs))
    ∙ ap (λ z. numbers k a ++ z) (own_none is_parameter f (k + length a) b
    (answer_fit is_parameter false refl env f x answer)) ∙ append-nil (numbers k a)
    ∙ ap (λ (z : Local). numbers (next_variable z.counts) (formals_named env (next_block z.counts) fs)) (sym e)
  where
    is_formal : (r : Bool) → is_parameter (role_of r) ≡ true
    is_formal true = refl
    is_formal false = refl

results_heading : Heading is_answer (λ (b : n.Block). as_list (answer_variable b.answer))
results_heading l x fs answer i at env e ie =
    let f = next_block l.counts in
    let k = next_variable l.counts in
    let a = formals_named env f fs in
    let b = answer_named env f x answer in
    let len = same_formals env (inner_env [] l) f fs in
    own_join is_answer f k a b ∙ ap (λ z. z ++ own is_answer f (k + length a) b)
    (own_none is_answer f k a (formals_fit is_answer false no_formal env f fs))
    ∙ own_all is_answer f (k + length a) b (answer_of_ env f x answer) (answer_fit is_answer true refl env f x answer)
    ∙ last answer (k + length a) (let z : next_variable
    (formals_local (local_of_inner f 0 (title_local l x fs answer)) fs).counts ≡ k + length a =
    omega (arith, at, len) in z)
    ie
  where
    no_formal : (r : Bool) → is_answer (role_of r) ≡ false
    no_formal true = refl
    no_formal false = refl

    last : (answer2 : Option Name) (j : ℕ) → next_variable
        (formals_local (local_of_inner (next_block l.counts) 0 (title_local l x fs answer)) fs).counts ≡ j
        → i.answer ≡ (answer_local
        (formals_local (local_of_inner (next_block l.counts) 0 (title_local l x fs answer)) fs)
        answer2).answer
        → numbers j (answer_named env (next_block l.counts) x answer2)
        ≡ as_list (answer_variable (answer_of i.answer answer2))
    last None j at ie = refl
    last (Some t) j at ie = ap (λ z. z ∷ []) (sym at ∙ sym ie)

in_blocks_at : (g : n.Block → List ℕ) (k f : ℕ) (bs : List n.Block) (b : n.Block) → slice_get bs f ≡ Some b
    → in_blocks g (k + f) k bs ≡ g b
in_blocks_at g k f [] b e = absurd (cc e)
in_blocks_at g k zero (c ∷ bs) b e = ap (λ (z : Bool). if z then g c else in_blocks g (k + 0) (suc k) bs)
    (eq-eqb k (k + 0) (omega arith)) ∙ ap g (same_Some c b e)
in_blocks_at g k (suc f) (c ∷ bs) b e = ap (λ (z : Bool). if z then g c else in_blocks g (k + suc f) (suc k) bs)
    (other k f) ∙ ap (λ z. in_blocks g z (suc k) bs) (let z : k + suc f ≡ suc k + f = omega arith in z)
    ∙ in_blocks_at g (suc k) f bs b e
  where
    other : (k f : ℕ) → (k == (k + suc f)) ≡ false
    other k f = Prim.grind arith

-- a number among a block's variables of a role is of such a variable
own_member : (fits : Role → Bool) (f k x : ℕ) (us : List checked.Variable) (rest : List ℕ) → own fits f k us ≡ x ∷ rest
    → (j : ℕ) × (u : checked.Variable) × (x ≡ k + j) × (slice_get us j ≡ Some u) × (fits u.role ≡ true) × (u.block ≡ f)
own_member fits f k x [] rest e = absurd (cc e)
own_member fits f k x (u ∷ us) rest e = go (u.block == f) (fits u.role) refl refl e
    (λ e. own_member fits f (suc k) x us rest e)
  where
    first : (a b : ℕ) (xs ys : List ℕ) → a ∷ xs ≡ b ∷ ys → a ≡ b
    first a b xs ys e = cc e

    go : (b r : Bool) → (u.block == f) ≡ b → fits u.role ≡ r
        → (if b && r then k ∷ own fits f (suc k) us else own fits f (suc k) us) ≡ x ∷ rest
        → (own fits f (suc k) us ≡ x ∷ rest → (j : ℕ) × (u : checked.Variable) × (x ≡ suc k + j)
        × (slice_get us j ≡ Some u) × (fits u.role ≡ true) × (u.block ≡ f))
        → (j : ℕ) × (v : checked.Variable) × (x ≡ k + j) × (slice_get (u ∷ us) j ≡ Some v) × (fits v.role ≡ true)
        × (v.block ≡ f)
    go true true be re e next = (
      0,
      u,
      (let z = first k x (own fits f (suc k) us) rest e in omega (arith, z)),
      refl,
      re,
      eqb-true u.block f be,
    )
    go true false be re e next = let (j, u, far, u_at, fits_it, block_is) = next e in
        (suc j, u, omega (arith, far), u_at, fits_it, block_is)
    go false s be re e next = let (j, u, far, u_at, fits_it, block_is) = next e in
        (suc j, u, omega (arith, far), u_at, fits_it, block_is)

module _ (s : syntax.Program) (calm : broken_name_rules s ≡ []) where
  abbrev pub named : n.Program
  named = program_named s

  abbrev pub tree : plain.Program
  tree = without_places (program_checked named)

  abbrev pub m : ℕ
  m = length named.constants

  abbrev parts_ : Parts
  parts_ = s.block.parts

  abbrev body_ : Statement
  body_ = s.block.body

  abbrev std : List names.Scope
  std = standard_scope ∷ []

  abbrev inner_ : n.Program
  inner_ = parts_named std empty_local parts_

  calm_two : (w.parts_sites [] both_lists all_at std empty_local parts_ ≡ [])
      × (w.statement_sites [] both_lists all_at std (parts_local empty_local parts_) body_ ≡ [])
  calm_two = none_in_parts (w.parts_sites [] both_lists all_at std empty_local parts_)
      (w.statement_sites [] both_lists all_at std (parts_local empty_local parts_) body_)
      (none_in_parts (w.files_sites [] both_lists all_at [] s.heading)
      (both_lists (w.parts_sites [] both_lists all_at std empty_local parts_)
      (w.statement_sites [] both_lists all_at std (parts_local empty_local parts_) body_)) calm).1

  -- the tables of the tree are those of the names
  pub held : HoldsVariables tree m 0 named.variables
  held = variables_held tree m 0 (blocks_after (env_of named) (starts_of named.blocks) named.blocks).variables
      named.variables (final_length named) (λ i. ap (slice_get tree.variables) (let z : 0 + i ≡ i = omega arith in z))

  pub held_blocks : HoldsBlocks tree m 0 named.blocks
  held_blocks = blocks_held tree m 0 (env_of named) (starts_of named.blocks) named.blocks (starts_length named.blocks)
      (λ i. ap (slice_get tree.blocks) (let z : 0 + i ≡ i = omega arith in z))

  -- ---- parents

  below_all : AreBelow 0 named.blocks
  below_all = ((λ q e. absurd (none-some q e)), parts_below std empty_local parts_ calm_two.0 (omega arith))

  pub parents : (f q : ℕ) (b : plain.Block) → slice_get tree.blocks f ≡ Some b → b.parent ≡ Some q → suc q ≤ f
  parents f q b at e =
      let r = block_from (env_of named) (starts_of named.blocks) named.blocks f b at in
      let l = parent_below 0 named.blocks f r.0 q below_all r.1 (sym r.2 ∙ e) in
      omega (arith, l)

  -- ---- parameters and results

  program_own : (fits : Role → Bool) → fits role.Console ≡ false → fits role.Local ≡ false → fits role.Index ≡ false
      → (g : n.Block → List ℕ) → Heading fits g
      → g (program_block s.name (inside_named std empty_local parts_ body_).body) ≡ [] → (f : ℕ)
      → own fits f 0 named.variables ≡ in_blocks g f 0 named.blocks
  program_own fits nc nl ni g heading none f =
      console 0 (if (0 == f) && fits role.Console then 1 ∷ own fits f 2 (inner_.variables ++ indices 0 body_) else
      own fits f 2 (inner_.variables ++ indices 0 body_)) (0 == f)
      ∙ console 1 (own fits f 2 (inner_.variables ++ indices 0 body_)) (0 == f)
      ∙ own_join fits f 2 inner_.variables (indices 0 body_)
      ∙ ap (λ z. own fits f 2 inner_.variables ++ z)
      (own_none fits f (2 + length inner_.variables) (indices 0 body_) (indices_fit fits ni 0 body_))
      ∙ append-nil (own fits f 2 inner_.variables)
      ∙ parts_own fits nl ni g heading f std empty_local parts_ calm_two.0 ∙ sym (go (0 == f) refl)
    where
      console : (k : ℕ) (rest : List ℕ) (b : Bool) → (if b && fits role.Console then k ∷ rest else rest) ≡ rest
      console k rest true = ap (λ (z : Bool). if z then k ∷ rest else rest) nc
      console k rest false = refl

      zero_is : (f : ℕ) → (0 == f) ≡ true → 0 ≡ f
      zero_is f e = Prim.grind (arith, e)

      go : (z : Bool) → (0 == f) ≡ z → (if z then
          g (program_block s.name (inside_named std empty_local parts_ body_).body) else in_blocks g f 1 inner_.blocks)
          ≡ in_blocks g f 1 inner_.blocks
      go true e = let z = zero_is f e in none ∙ sym (blocks_below g f 1 inner_.blocks (omega (arith, z)))
      go false e = refl

  -- a block's variables of a role are its list
  of_block : (fits : Role → Bool) (g : n.Block → List ℕ)
      → ((f : ℕ) → own fits f 0 named.variables ≡ in_blocks g f 0 named.blocks) → (f : ℕ) (nb : n.Block)
      → slice_get named.blocks f ≡ Some nb → g nb ≡ numbers_with_role fits (variables_of f 0 tree.variables)
  of_block fits g h f nb at =
      let ks = (blocks_after (env_of named) (starts_of named.blocks) named.blocks).variables in
      sym (in_blocks_at g 0 f named.blocks nb at)
      ∙ ap (λ z. in_blocks g z 0 named.blocks) (let z : 0 + f ≡ f = omega arith in z) ∙ sym (h f)
      ∙ sym (checked_own fits f 0 ks named.variables (final_length named))
      ∙ sym (among_own fits f 0 (checked_variables ks named.variables))

  pub formals : (f : ℕ) (b : plain.Block) → slice_get tree.blocks f ≡ Some b
      → b.formals ≡ numbers_with_role is_parameter (variables_of f 0 tree.variables)
  formals f b at =
      let (nb, nb_at, _, formals_are, _) = block_from (env_of named) (starts_of named.blocks) named.blocks f b at in
      formals_are ∙ of_block is_parameter (λ (b : n.Block). b.formals)
      (program_own is_parameter refl refl refl (λ (b : n.Block). b.formals) parameters_heading refl) f nb nb_at

  pub answers : (f : ℕ) (b : plain.Block) → slice_get tree.blocks f ≡ Some b
      → as_list b.answer ≡ numbers_with_role is_answer (variables_of f 0 tree.variables)
  answers f b at =
      let (nb, nb_at, _, _, answer_is) = block_from (env_of named) (starts_of named.blocks) named.blocks f b at in
      ap as_list answer_is ∙ of_block is_answer (λ (b : n.Block). as_list (answer_variable b.answer))
      (program_own is_answer refl refl refl (λ (b : n.Block). as_list (answer_variable b.answer)) results_heading
      refl) f nb nb_at

  held_at : (k : ℕ) (us : List checked.Variable) (j : ℕ) (u : checked.Variable) → HoldsVariables tree m k us
      → slice_get us j ≡ Some u → (v : plain.Variable) × (slice_get tree.variables (k + j) ≡ Some v) × (v.role ≡ u.role)
      × (v.block ≡ u.block)
  held_at k [] j u h e = absurd (cc e)
  held_at k (w ∷ us) zero u ((v, v_at, role_is, block_is), _) e = let s = same_Some w u e in (
    v,
    subst (λ z. slice_get tree.variables z ≡ Some v) (let z : k ≡ k + 0 = omega arith in z) v_at,
    role_is
        ∙ ap (λ (z : checked.Variable). z.role) s,
    block_is ∙ ap (λ (z : checked.Variable). z.block) s,
  )
  held_at k (w ∷ us) (suc j) u h e = let (v, v_at, role_is, block_is) = held_at (suc k) us j u h.1 e in (
    v,
    subst (λ z. slice_get tree.variables z ≡ Some v) (let z : suc k + j ≡ k + suc j = omega arith in z) v_at,
    role_is,
    block_is,
  )

  pub results : (f : ℕ) (b : plain.Block) (x : ℕ) → slice_get tree.blocks f ≡ Some b → b.answer ≡ Some x
      → (v : plain.Variable) × (slice_get tree.variables x ≡ Some v) × (v.role ≡ role.Answer) × (v.block ≡ f)
  results f b x at ans =
      let ks = (blocks_after (env_of named) (starts_of named.blocks) named.blocks).variables in
      let e : own is_answer f 0 named.variables ≡ x ∷ [] =
      sym (checked_own is_answer f 0 ks named.variables (final_length named))
      ∙ sym (among_own is_answer f 0 (checked_variables ks named.variables)) ∙ sym (answers f b at)
      ∙ ap as_list ans in
      let (j, u, x_is, u_at, is_result, of_block) = own_member is_answer f 0 x named.variables [] e in
      let (v, v_at, role_is, block_is) = held_at 0 named.variables j u held u_at in (
        v,
        subst (λ z. slice_get tree.variables z ≡ Some v) (sym x_is) v_at,
        role_is ∙ answer_is u.role is_result,
        block_is ∙ of_block,
      )

  -- ---- the input and the output

  pub input : (v : plain.Variable) × (slice_get tree.variables 0 ≡ Some v) × (v.role ≡ role.Console)
  input = let ((v, v_at, role_is, _), _) = held in (v, v_at, role_is)

  pub output : (v : plain.Variable) × (slice_get tree.variables 1 ≡ Some v) × (v.role ≡ role.Console)
  output = let (_, ((v, v_at, role_is, _), _)) = held in (v, v_at, role_is)

  -- ---- each name is of a visible declaration

  pub scoped : AreScoped tree m 0 named.blocks
  scoped =
      let st = steps tree parents in
      let ((c, c_at, parent_is, _, answer_is), own_blocks) = held_blocks in
      let sc0 = top tree parents c c_at parent_is in
      let chain : IsChain tree m (OfBlock 0 ∷ []) = (sc0, tt) in
      let base : IsOpen tree m (OfBlock 0 ∷ []) 0 0 std empty_local =
      record {
        visible = ((standard_valid, tt), tt);
        own = refl;
        home = inl refl;
        near = inl (eq_zero);
        result = refl;
      } in
      let (_, (_, rest)) = held in
      let vs = holds_parts tree m 2 inner_.variables (indices 0 body_) rest in
      let r = parts_scoped tree m st results [] 0 0 std empty_local parts_ chain base calm_two.0
      ((omega arith), vs.0, own_blocks) in
      let moved = (parts_move std empty_local parts_ calm_two.0).variables_are in
      let place : IsPlace tree m (OfBlock 0 ∷ []) 0 std (parts_local empty_local parts_) = record {
        visible = r.0.visible;
        own = r.0.own;
        home = r.0.home;
        near = r.0.near;
        answer = λ b x at ans. absurd (no_answer b x at ans c c_at answer_is);
      } in
      let body_in = statement_in tree m st results 0 (OfBlock 0 ∷ []) std (parts_local empty_local parts_) body_
      chain place
      calm_two.1 (subst (λ z. HoldsVariables tree m z (indices 0 body_)) (sym moved) vs.1) in (
        subst (λ z. InStatement tree m z (named_statement std (parts_local empty_local parts_) body_)) (sym sc0)
            body_in,
        r.1,
      )
    where
      eq_zero : level (is_block 0) (OfBlock 0 ∷ []) ≡ Some 0
      eq_zero = refl

      standard_valid : AreValid tree m (OfBlock 0 ∷ []) standard_scope
      standard_valid = (
        tt,
        (
          tt,
          (
            tt,
            (
              omega arith,
              (
                omega arith,
                (
                  omega arith,
                  (
                    tt,
                    (
                      tt,
                      (tt, (tt, (tt, (tt, (tt, (tt, (tt, (tt, (tt, (tt, (tt, (tt, (tt, (tt, tt)))))))))))))),
                    ),
                  ),
                ),
              ),
            ),
          ),
        ),
      )

      no_answer : (b : plain.Block) (x : ℕ) → slice_get tree.blocks 0 ≡ Some b → b.answer ≡ Some x → (c : plain.Block)
          → slice_get tree.blocks 0 ≡ Some c → c.answer ≡ None → ⊥
      no_answer b x at ans c cat none = cc (at, ans, cat, none)
