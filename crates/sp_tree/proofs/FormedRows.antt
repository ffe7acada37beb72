-- A worked program that is formed, and some that are not, by computing.
use Rattle.std.proofs.Common.{◌≡◌, inl, inr, ℕ, zero, suc, ◌≤◌, ℤ, List, [], ◌∷◌, Some, None, slice_get, refl, sym}
use Rattle.std.proofs.Common.{subst, arith}
use Rattle.std.specs.Prelude.{pos}
use Rattle.sp_tree.specs.declared.checked.KindOf.TheVariants as kind
use Rattle.sp_tree.specs.declared.checked.Role.{Role}
use Rattle.sp_tree.specs.declared.checked.Role.TheVariants as role
use Rattle.sp_tree.specs.Cells.{variables_of}
use Rattle.sp_tree.specs.Plain.{Typed, Number, Read, Entire, Whole, Program, Variable, Block, Stmt, Assign, Parallel}
use Rattle.sp_tree.specs.Plain.{WriteValue, No, And}
use Rattle.sp_tree.specs.Uses.{Use, ParallelOf, In_stmt}
use Rattle.sp_tree.specs.TreeShape.{is_parameter, is_answer, numbers_with_role, as_list, IsFormedUse, IsFormed}

abbrev declared : ℕ → Role → Variable
declared b r = record { kind = 0; block = b; role = r }

abbrev tables : List Block → Program
tables bs = record {
  kinds = kind.Integer ∷ [];
  variables = declared 0 role.Console ∷ declared 0 role.Console ∷ declared 0 role.Local ∷ declared 1 role.Value
      ∷ declared 0 role.Index ∷ [];
  blocks = bs;
}

abbrev the_program : Stmt → Block
the_program s = record { parent = None; formals = []; answer = None; body = s }

-- a procedure with one value parameter, which it writes
abbrev writes : List ℕ → Block
writes formals = record {
  parent = Some 0;
  formals = formals;
  answer = None;
  body = WriteValue (Typed 0 (Read (Entire 3 Whole))) None;
}

abbrev sets : ℕ → Stmt
sets x = Assign (Entire x Whole) (Typed 0 (Number (pos 1)))

abbrev good : Program
good = tables (the_program (Parallel (And (sets 2) No)) ∷ writes (3 ∷ []) ∷ [])

no_array : (k : ℕ) (low high : ℤ) (index element : ℕ)
    → slice_get good.kinds k ≡ Some (kind.Array low high index element) → ⊥
no_array zero low high index element e = cc e
no_array (suc k) low high index element e = cc e

no_fields : (k : ℕ) (fs : List (List ℕ × ℕ)) → slice_get good.kinds k ≡ Some (kind.Fields fs) → ⊥
no_fields zero fs e = cc e
no_fields (suc k) fs e = cc e

formals_fit : (f : ℕ) (b : Block) → slice_get good.blocks f ≡ Some b
    → b.formals ≡ numbers_with_role is_parameter (variables_of f 0 good.variables)
formals_fit zero b e = let same : the_program (Parallel (And (sets 2) No)) ≡ b = cc e in
    subst (λ (z : Block). z.formals ≡ []) same refl
formals_fit (suc zero) b e = let same : writes (3 ∷ []) ≡ b = cc e in
    subst (λ (z : Block). z.formals ≡ 3 ∷ []) same refl
formals_fit (suc (suc f)) b e = absurd (cc e)

answers_fit : (f : ℕ) (b : Block) → slice_get good.blocks f ≡ Some b
    → as_list b.answer ≡ numbers_with_role is_answer (variables_of f 0 good.variables)
answers_fit zero b e = let same : the_program (Parallel (And (sets 2) No)) ≡ b = cc e in
    subst (λ (z : Block). as_list z.answer ≡ []) same refl
answers_fit (suc zero) b e = let same : writes (3 ∷ []) ≡ b = cc e in
    subst (λ (z : Block). as_list z.answer ≡ []) same refl
answers_fit (suc (suc f)) b e = absurd (cc e)

-- what stands of each variable
module _ (P : Variable → Type 0) (local : P (declared 0 role.Local)) (console : P (declared 0 role.Console))
    (value : P (declared 1 role.Value)) (index : P (declared 0 role.Index)) where
  of_each : (x : ℕ) (v : Variable) → slice_get good.variables x ≡ Some v → P v
  of_each zero v e = let same : declared 0 role.Console ≡ v = cc e in subst P same console
  of_each (suc zero) v e = let same : declared 0 role.Console ≡ v = cc e in subst P same console
  of_each (suc (suc zero)) v e = let same : declared 0 role.Local ≡ v = cc e in subst P same local
  of_each (suc (suc (suc zero))) v e = let same : declared 1 role.Value ≡ v = cc e in subst P same value
  of_each (suc (suc (suc (suc zero)))) v e = let same : declared 0 role.Index ≡ v = cc e in subst P same index
  of_each (suc (suc (suc (suc (suc x))))) v e = absurd (cc e)

first_is : 1 ≤ 1
first_is = omega arith

program_uses : (u : Use) → In_stmt (Parallel (And (sets 2) No)) u → IsFormedUse good u
program_uses u (inl e) = subst (IsFormedUse good) (sym e) (λ q. cc q)
program_uses u (inr (inl (inl (inl (inl e))))) =
    subst (IsFormedUse good) (sym e) (declared 0 role.Local, refl, λ q. cc q)
program_uses u (inr (inl (inl (inl (inr h))))) = absurd h
program_uses u (inr (inl (inl (inr h)))) = absurd h
program_uses u (inr (inl (inr h))) = absurd h
program_uses u (inr (inr e)) = subst (IsFormedUse good) (sym e) tt

procedure_uses : (u : Use) → In_stmt (writes (3 ∷ [])).body u → IsFormedUse good u
procedure_uses u (inl e) = subst (IsFormedUse good) (sym e) (declared 0 role.Console, refl, λ q. cc q)
procedure_uses u (inr (inl (inl e))) = subst (IsFormedUse good) (sym e) (λ q. absurd (omega (arith, q)))
procedure_uses u (inr (inl (inr h))) = absurd h
procedure_uses u (inr (inr (inl h))) = absurd h
procedure_uses u (inr (inr (inr e))) = subst (IsFormedUse good) (sym e) tt

uses_fit : (f : ℕ) (b : Block) → slice_get good.blocks f ≡ Some b → (u : Use) → In_stmt b.body u → IsFormedUse good u
uses_fit zero b e u h = let same : the_program (Parallel (And (sets 2) No)) ≡ b = cc e in
    program_uses u (subst (λ (z : Block). In_stmt z.body u) (sym same) h)
uses_fit (suc zero) b e u h = let same : writes (3 ∷ []) ≡ b = cc e in
    procedure_uses u (subst (λ (z : Block). In_stmt z.body u) (sym same) h)
uses_fit (suc (suc f)) b e u h = absurd (cc e)

pub good_formed : IsFormed good
good_formed = record {
  arrays = λ k low high index element e. absurd (no_array k low high index element e);
  fields = λ k fs e. absurd (no_fields k fs e);
  formals = formals_fit;
  answers = answers_fit;
  kinds = of_each (λ v. suc v.kind ≤ 1) first_is first_is first_is first_is;
  homes = of_each (λ v. (b : Block) × (slice_get good.blocks v.block ≡ Some b)) (_, refl) (_, refl) (_, refl) (_, refl);
  program = λ b e. let same : the_program (Parallel (And (sets 2) No)) ≡ b = cc e in
      subst (λ (z : Block). (z.parent ≡ None) × (z.formals ≡ []) × (z.answer ≡ None)) same (refl, refl, refl);
  uses = uses_fit;
}

-- a parallel statement without a part
pub no_part_refused : IsFormed (tables (the_program (Parallel No) ∷ writes (3 ∷ []) ∷ [])) → ⊥
no_part_refused h = h.uses 0 (the_program (Parallel No)) refl (ParallelOf No) (inl refl) refl

-- the index of a forall as a target
pub index_refused : IsFormed (tables (the_program (sets 4) ∷ writes (3 ∷ []) ∷ [])) → ⊥
index_refused h = let r = h.uses 0 (the_program (sets 4)) refl _ (inl (inl refl)) in
    let same : declared 0 role.Index ≡ r.0 = cc r.1 in r.2 (subst (λ (z : Variable). z.role ≡ role.Index) same refl)

-- a procedure without its parameter
pub parameter_missed : IsFormed (tables (the_program (sets 2) ∷ writes [] ∷ [])) → ⊥
parameter_missed h = let e : [] ≡ 3 ∷ [] = h.formals 1 (writes []) refl in cc e
