-- The program of a text that breaks no rule is ready (`accepted_ready`).
use Rattle.std.proofs.Common.{◌≡◌, ℕ, zero, suc, List, [], ◌∷◌, Some, slice_get, refl, sym, ap, ◌∙◌, subst}
use Rattle.std.specs.Prelude.{map}
use Rattle.std.proofs.lemmas.Option.{same_Some}
use Rattle.sp_base.specs.declared.limits.Limits.{Limits}
use Rattle.sp_base.specs.declared.rule.Rule.TheVariants as rule
use Rattle.sp_tree.specs.declared.checked.Role.TheVariants as role
use Rattle.sp_tree.specs.declared.checked.Variable.{Variable as Placed}
use Rattle.sp_tree.specs.Bare.{without_places, variable_of}
use Rattle.sp_tree.specs.TreeShape.{IsFormed}
use Rattle.sp_tree.specs.Interference.{IsFreeOfInterference, IsFunction, IsMember}
use Rattle.sp_tree.specs.Plain.{Stmt, Block, Variable}
use Rattle.sp_tree.specs.PlainChecked as c
use Rattle.sp_tree.specs.Sets.{ImplicitTarget}
use Rattle.sp_tree.proofs.NoBreach.{block_at}
use Rattle.sp_code.specs.Shares.{SetsAre}
use Rattle.sp_code.specs.Sound.{AreLimits}
use Rattle.sp_front.specs.AcceptedTree.{KeepsInterference, IsAccepted}
use Rattle.sp_front.proofs.AcceptedFacts.{accepted_fine, accepted_free, accepted_formed, accepted_small}
use Rattle.sp_link.specs.Premises.{IsReady}

variable_at : (vs : List Placed) (x : ℕ) (v : Variable) → slice_get (map variable_of vs) x ≡ Some v → (i : Placed)
    × (slice_get vs x ≡ Some i) × (variable_of i ≡ v)
variable_at [] x v e = absurd (cc e)
variable_at (i ∷ vs) zero v e = (i, refl, same_Some _ _ e)
variable_at (i ∷ vs) (suc x) v e = variable_at vs x v e

module _ (p : c.Program) (kept : KeepsInterference p) where
  -- a function changes nothing outside itself
  changes_nothing : (f : ℕ) → IsFunction (without_places p) f → (x : ℕ) → ImplicitTarget (without_places p) f x → ⊥
  changes_nothing f function x target = let m = block_at p.blocks f function.0 function.2 in
      kept rule.I8 (m.0).at (f, m.0, m.1, refl, function, x, target)

  -- and takes values alone
  takes_values : (f : ℕ) (b : Block) → slice_get (without_places p).blocks f ≡ Some b → IsFunction (without_places p) f
      → (x : ℕ)
      → IsMember x b.formals → (v : Variable) → slice_get (without_places p).variables x ≡ Some v
      → v.role ≡ role.Reference → ⊥
  takes_values f b at function x i v is r =
      let m = block_at p.blocks f b at in
      let w = variable_at p.variables x v is in
      kept rule.I7 (w.0).at (
        f,
        m.0,
        m.1,
        function,
        x,
        subst (λ (z : Block). IsMember x z.formals) (sym m.2) i,
        w.0,
        w.1,
        ap (λ (z : Variable). z.role) w.2 ∙ r,
        refl,
      )

module _ (p : c.Program) (formed : IsFormed (without_places p)) (free : IsFreeOfInterference (without_places p)) where
  -- the program's block is there, since it has the input
  first_block : (b : Block) × (slice_get (without_places p).blocks 0 ≡ Some b)
  first_block =
      let i = free.input in
      let home = formed.homes 0 i.0 i.1 in
      (home.0, subst (λ k. slice_get (without_places p).blocks k ≡ Some home.0) (free.consoles 0 i.0 i.1 i.2).0 home.1)

pub accepted_ready : (text : List ℕ) (p : c.Program) → IsAccepted text p → (moves shares : Stmt → List ℕ)
    → SetsAre (without_places p) moves shares → (input : List ℕ) (lim : Limits) → AreLimits lim
    → IsReady (record { program = without_places p; input = input; limits = lim }) moves shares
accepted_ready text p a moves shares sets input lim l =
    let formed = accepted_formed text p a in
    let free = accepted_free text p a in
    let first = first_block p formed free in
    record {
      main = first.0;
      first = first.1;
      formed = formed;
      small = accepted_small text p a;
      free = free;
      pure = changes_nothing p a.1;
      values = takes_values p a.1;
      fine = λ f q b at. accepted_fine text p a moves shares f q b at;
      sets = sets;
      limits = l;
    }
