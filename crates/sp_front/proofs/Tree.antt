-- The tree of a program, piece by piece, is that of its tree with numbers for names: blocks, roles and blocks of
-- variables.
use Rattle.std.proofs.Common.{◌≡◌, refl, ap, sym, ◌∙◌, subst, ℕ, zero, suc, ◌+◌, ◌≤◌, ◌==◌, List, [], ◌∷◌, Option, Some}
use Rattle.std.proofs.Common.{None, Bool, if◌then◌else◌, ◌&&◌, length, slice_get, arith}
use Rattle.std.specs.Prelude.{map}
use Rattle.std.proofs.lemmas.List.{length-set}
use Rattle.std.proofs.lemmas.Option.{same_Some}
use Rattle.sp_base.specs.declared.place.Place.{Place}
use Rattle.sp_tree.specs.declared.checked.Role.{Role}
use Rattle.sp_tree.specs.declared.checked.Variable as checked
use Rattle.sp_tree.specs.Bare.{bare_block, variable_of}
use Rattle.sp_tree.specs.Plain as plain
use Rattle.sp_tree.specs.PlainNamed as n
use Rattle.sp_tree.specs.PlainNamed.{Statement, Does, Form, Empty, Assign, Call, Perform, Sequence, If, While, Repeat}
use Rattle.sp_tree.specs.PlainNamed.{Case, For, Parallel, Forall, Assume, NoElse, Else, Statements, NoStatement}
use Rattle.sp_tree.specs.PlainNamed.{AndThen, On, Arms, NoArm, Or, Branches, NoBranch, Beside}
use Rattle.sp_code.specs.Scopes.{OfBlock, scopes_by, scopes_of, parent_of}
use Rattle.sp_types.specs.Tables.{Env, answer_variable, with_next_number, with_index_type, env_of, types_of, numbers_of}
use Rattle.sp_types.specs.TypeWalk.{statement_after, statements_after, arms_after, branches_after, form_after}
use Rattle.sp_types.specs.TypeWalk.{with_first_number}
use Rattle.sp_types.specs.TypeWalk.{starts_of, starts_from, bodies, blocks_after}
use Rattle.sp_types.specs.Kinds.{expression_kind}
use Rattle.sp_types.specs.CheckedTree.{checked_block, checked_blocks, checked_variables, or_zero}
use Rattle.sp_front.specs.PartsInTables.{HoldsBlocks, AreBelow}
use Rattle.sp_front.proofs.NameStatements.{HoldsVariables}
use Rattle.sp_front.proofs.Headings.{own}

-- ---- the table of types keeps its length

abbrev pub SameVariableCount : Env → Env → Type 0
SameVariableCount a b = length b.variables ≡ length a.variables

mutual
  pub statement_length : (env : Env) (s : Statement) → SameVariableCount env (statement_after env s)
  statement_length env (Does at form) = form_length (with_next_number env) form

  form_length : (env : Env) (form : Form) → SameVariableCount env (form_after env form)
  form_length env Empty = refl
  form_length env (Assign v e) = refl
  form_length env (Call f args) = refl
  form_length env (Perform f args) = refl
  form_length env (Sequence ss) = statements_length env ss
  form_length env (If e a NoElse) = statement_length env a
  form_length env (If e a (Else b)) = statement_length (statement_after env a) b ∙ statement_length env a
  form_length env (While e a) = statement_length env a
  form_length env (Repeat ss e) = statements_length (with_next_number env) ss
  form_length env (Case e arms) = arms_length env arms
  form_length env (For x at from down to a) = statement_length env a
  form_length env (Parallel bs) = branches_length env bs
  form_length env (Forall x from to a) = statement_length (with_index_type env x (expression_kind env from)) a
      ∙ length-set env.variables x (expression_kind env from)
  form_length env (Assume e) = refl

  pub statements_length : (env : Env) (ss : Statements) → SameVariableCount env (statements_after env ss)
  statements_length env NoStatement = refl
  statements_length env (AndThen a rest) = statements_length (statement_after env a) rest ∙ statement_length env a

  arms_length : (env : Env) (arms : Arms) → SameVariableCount env (arms_after env arms)
  arms_length env NoArm = refl
  arms_length env (Or (On cs a) rest) = arms_length (statement_after env a) rest ∙ statement_length env a

  branches_length : (env : Env) (bs : Branches) → SameVariableCount env (branches_after env bs)
  branches_length env NoBranch = refl
  branches_length env (Beside ss rest) = branches_length (statements_after (with_next_number env) ss) rest
      ∙ statements_length (with_next_number env) ss

pub blocks_length : (env : Env) (starts : List ℕ) (bs : List n.Block)
    → SameVariableCount env (blocks_after env starts bs)
blocks_length env starts [] = refl
blocks_length env [] (b ∷ bs) = refl
blocks_length env (k ∷ starts) (b ∷ bs) = blocks_length (statement_after (with_first_number env k) b.body) starts bs
    ∙ statement_length (with_first_number env k) b.body

pub starts_length : (bs : List n.Block) → length (starts_of bs) ≡ length bs
starts_length bs = go (bodies bs) bs
  where
    go : (all : List (Place × ℕ)) (bs : List n.Block) → length (starts_from all (bodies bs)) ≡ length bs
    go all [] = refl
    go all (b ∷ bs) = ap suc (go all bs)

pub types_length : (ns : List ℕ) (us : List checked.Variable) → length (types_of ns us) ≡ length us
types_length ns [] = refl
types_length ns (u ∷ us) = ap suc (types_length ns us)

-- ---- variables

pub checked_own : (fits : Role → Bool) (f k : ℕ) (ks : List (Option ℕ)) (us : List checked.Variable)
    → length ks ≡ length us → own fits f k (checked_variables ks us) ≡ own fits f k us
checked_own fits f k ks [] e = refl
checked_own fits f k [] (u ∷ us) e = absurd (omega (arith, e))
checked_own fits f k (z ∷ ks) (u ∷ us) e = ap (λ zs. if (u.block == f) && fits u.role then k ∷ zs else zs)
    (checked_own fits f (suc k) ks us (omega (arith, e)))

module _ (p : plain.Program) (m : ℕ) where
  pub variables_held : (k : ℕ) (ks : List (Option ℕ)) (us : List checked.Variable) → length ks ≡ length us
      → ((i : ℕ) → slice_get p.variables (k + i) ≡ slice_get (map variable_of (checked_variables ks us)) i)
      → HoldsVariables p m k us
  variables_held k ks [] e h = tt
  variables_held k [] (u ∷ us) e h = absurd (omega (arith, e))
  variables_held k (z ∷ ks) (u ∷ us) e h = (
    (
      variable_of (record u { kind = or_zero z }),
      subst (λ j. slice_get p.variables j ≡ Some (variable_of (record u { kind = or_zero z })))
          (let j : k + 0 ≡ k = omega arith in j) (h 0),
      refl,
      refl,
    ),
    variables_held (suc k) ks us (omega (arith, e))
        (λ i. subst (λ j. slice_get p.variables j ≡ slice_get (map variable_of (checked_variables ks us)) i)
        (let j : k + suc i ≡ suc k + i = omega arith in j) (h (suc i))),
  )

  pub blocks_held : (k : ℕ) (env : Env) (starts : List ℕ) (bs : List n.Block) → length starts ≡ length bs
      → ((i : ℕ) → slice_get p.blocks (k + i) ≡ slice_get (map bare_block (checked_blocks env starts bs)) i)
      → HoldsBlocks p m k bs
  blocks_held k env starts [] e h = tt
  blocks_held k env [] (b ∷ bs) e h = absurd (omega (arith, e))
  blocks_held k env (z ∷ starts) (b ∷ bs) e h =
      let c = bare_block (checked_block (with_first_number env z) b) in (
        (c, subst (λ j. slice_get p.blocks j ≡ Some c) (let j : k + 0 ≡ k = omega arith in j) (h 0), refl, refl, refl),
        blocks_held (suc k) (statement_after (with_first_number env z) b.body) starts bs (omega (arith, e))
            (λ i. subst (λ j. slice_get p.blocks j
            ≡ slice_get (map bare_block (checked_blocks (statement_after (with_first_number env z) b.body) starts
            bs)) i)
            (let j : k + suc i ≡ suc k + i = omega arith in j) (h (suc i))),
      )

-- a block of the tree is one of the tree with numbers for names
pub block_from : (env : Env) (starts : List ℕ) (bs : List n.Block) (f : ℕ) (c : plain.Block)
    → slice_get (map bare_block (checked_blocks env starts bs)) f ≡ Some c → (b : n.Block) × (slice_get bs f ≡ Some b)
    × (c.parent ≡ b.parent) × (c.formals ≡ b.formals) × (c.answer ≡ answer_variable b.answer)
block_from env starts [] f c e = absurd (cc e)
block_from env [] (b ∷ bs) f c e = absurd (cc e)
block_from env (z ∷ starts) (b ∷ bs) zero c e =
    let s = same_Some (bare_block (checked_block (with_first_number env z) b)) c e in (
      b,
      refl,
      ap (λ (y : plain.Block). y.parent) (sym s),
      ap (λ (y : plain.Block). y.formals) (sym s),
      ap (λ (y : plain.Block). y.answer) (sym s),
    )
block_from env (z ∷ starts) (b ∷ bs) (suc f) c e = block_from (statement_after (with_first_number env z) b.body) starts
    bs f c e

pub parent_below : (k : ℕ) (bs : List n.Block) (f : ℕ) (b : n.Block) (q : ℕ) → AreBelow k bs → slice_get bs f ≡ Some b
    → b.parent ≡ Some q → suc q ≤ k + f
parent_below k [] f b q h e s = absurd (cc e)
parent_below k (c ∷ bs) zero b q h e s = let l = h.0 q (ap (λ (y : n.Block). y.parent) (same_Some c b e) ∙ s) in
    omega (arith, l)
parent_below k (c ∷ bs) (suc f) b q h e s = let l = parent_below (suc k) bs f b q h.1 e s in omega (arith, l)

-- ---- scopes: with parents before their blocks, the number of steps is enough

module _ (p : plain.Program) (below : (f q : ℕ) (b : plain.Block) → slice_get p.blocks f ≡ Some b → b.parent ≡ Some q
    → suc q ≤ f) where
  fuel : (n j f : ℕ) → suc f ≤ n → suc f ≤ j → scopes_by p n (Some f) ≡ scopes_by p j (Some f)
  fuel zero j f l r = absurd (omega (arith, l))
  fuel (suc n) zero f l r = absurd (omega (arith, r))
  fuel (suc n) (suc j) f l r = ap (λ z. OfBlock f ∷ z)
      (go (slice_get p.blocks f) refl (λ q s. fuel n j q (omega (arith, s, l)) (omega (arith, s, r))))
    where
      none : (i : ℕ) → scopes_by p i None ≡ []
      none zero = refl
      none (suc i) = refl

      parent : (b : plain.Block) → slice_get p.blocks f ≡ Some b → (o : Option ℕ) → b.parent ≡ o
          → ((q : ℕ) → suc q ≤ f → scopes_by p n (Some q) ≡ scopes_by p j (Some q)) → scopes_by p n o ≡ scopes_by p j o
      parent b at None e next = none n ∙ sym (none j)
      parent b at (Some q) e next = next q (below f q b at e)

      go : (o : Option plain.Block) → slice_get p.blocks f ≡ o
          → ((q : ℕ) → suc q ≤ f → scopes_by p n (Some q) ≡ scopes_by p j (Some q))
          → scopes_by p n (parent_of o) ≡ scopes_by p j (parent_of o)
      go None e next = none n ∙ sym (none j)
      go (Some b) e next = parent b e b.parent refl next

  within : (bs : List plain.Block) (f : ℕ) (b : plain.Block) → slice_get bs f ≡ Some b → suc f ≤ length bs
  within [] f b e = absurd (cc e)
  within (c ∷ bs) zero b e = omega arith
  within (c ∷ bs) (suc f) b e = let l = within bs f b e in omega (arith, l)

  pub steps : (f q : ℕ) (b : plain.Block) → slice_get p.blocks f ≡ Some b → b.parent ≡ Some q
      → scopes_of p f ≡ OfBlock f ∷ scopes_of p q
  steps f q b at s = go (length p.blocks) (within p.blocks f b at)
    where
      go : (n : ℕ) → suc f ≤ n → scopes_by p n (Some f) ≡ OfBlock f ∷ scopes_by p n (Some q)
      go zero l = absurd (omega (arith, l))
      go (suc n) l =
          let k = below f q b at s in
          ap (λ z. OfBlock f ∷ z) (ap (λ o. scopes_by p n (parent_of o)) at ∙ ap (scopes_by p n) s
          ∙ fuel n (suc n) q (omega (arith, k, l)) (omega (arith, k, l)))

  pub top : (b : plain.Block) → slice_get p.blocks 0 ≡ Some b → b.parent ≡ None → scopes_of p 0 ≡ OfBlock 0 ∷ []
  top b at s = go (length p.blocks) (within p.blocks 0 b at)
    where
      none : (i : ℕ) → scopes_by p i None ≡ []
      none zero = refl
      none (suc i) = refl

      go : (n : ℕ) → 1 ≤ n → scopes_by p n (Some 0) ≡ OfBlock 0 ∷ []
      go zero l = absurd (omega (arith, l))
      go (suc n) l = ap (λ z. OfBlock 0 ∷ z) (ap (λ o. scopes_by p n (parent_of o)) at ∙ ap (scopes_by p n) s ∙ none n)

-- the length of the types at the end
pub final_length : (c : n.Program) → length (blocks_after (env_of c) (starts_of c.blocks) c.blocks).variables
    ≡ length c.variables
final_length c = blocks_length (env_of c) (starts_of c.blocks) c.blocks ∙ types_length (numbers_of c) c.variables
