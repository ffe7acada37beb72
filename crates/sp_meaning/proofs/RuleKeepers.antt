-- A program that keeps the rules is disjoint. Of the rules it needs I1, I2, I4 and I5, and what names and types give
-- of the tree.
use Rattle.std.proofs.Common.{◌≡◌, ◌≢◌, inl, inr, ℕ, zero, suc, ◌<◌, ◌==◌, Bool, true, false, List, [], ◌∷◌, Option}
use Rattle.std.proofs.Common.{Some, None, refl, sym, ◌∙◌, subst, arith, if◌then◌else◌, nat_lt}
use Rattle.std.specs.Prelude.{slice_get}
use Rattle.std.proofs.lemmas.Option.{same_Some}
use Rattle.sp_tree.specs.declared.checked.Role.{Role}
use Rattle.sp_tree.specs.declared.checked.Role.TheVariants as role
use Rattle.sp_tree.specs.Plain.{Variable, Block}
use Rattle.sp_meaning.specs.Model.{Name}
use Rattle.sp_meaning.specs.LocalWork.{RunInput, Process, LocationContent, Address, Loc, Cell, Input, Output, OfBlock}
use Rattle.sp_meaning.specs.LocalWork.{Frame, Break}
use Rattle.sp_meaning.specs.Actions.{push, size_of_frame}
use Rattle.sp_base.specs.declared.fault.Fault.TheVariants as fault
use Rattle.sp_meaning.specs.Steps.{first_condition}
use Rattle.sp_meaning.specs.SuperPascal.{main_items, root}
use Rattle.sp_meaning.specs.Runs.{total_limits, start, IsDisjointRun}
use Rattle.sp_tree.specs.Uses.{Use, Target, Seen, In_stmt}
use Rattle.sp_tree.specs.Interference.{IsFreeOfInterference}
use Rattle.sp_meaning.specs.Rights.{cell_of, reference_of, console, location_by, location_at, location_of, Touches}
use Rattle.sp_meaning.specs.Rights.{Right, Sound}
use Rattle.sp_meaning.specs.Rights.{Fit}
use Rattle.sp_meaning.proofs.Rights.{OwnOrGiven, IsAbove, Fair_rights}
use Rattle.sp_meaning.proofs.RightsInvariant.{ConditionInRights, Inv, disjoint_from}
use Rattle.sp_meaning.proofs.SoundParts.{push_good}

-- the root may use the input and the output
abbrev pub First : Name → Loc → Type 0
First [] (Cell r n x) = ⊥
First [] Input = Unit {0}
First [] Output = Unit {0}
First (a ∷ q) l = ⊥

pub first_above : (q : Name) (l : Loc) → First q l → IsAbove q l
first_above [] (Cell r n x) h = absurd h
first_above [] Input h = tt
first_above [] Output h = tt
first_above (a ∷ q) l h = absurd h

pub first_fair : Fair_rights First First
first_fair = record {
  reads = λ q l h. h;
  above = first_above;
  less_write = λ q k i l h. absurd h;
  less_read = λ q k i l h. absurd h;
  apart = λ q k i j l n h g. h;
}

module _ (set : RunInput) (free : IsFreeOfInterference set.program) where
  abbrev pub bottom : Frame
  bottom = record { owner = []; number = 0; home = OfBlock 0; link = 0; references = [] }

  -- what a variable of the program stands for
  data ProgramLocation (x : ℕ) (l : Loc) : Type 0 where
    Global : (e : Cell [] 0 x ≡ l) → ProgramLocation x l
    Console : (lt : x < 2) (e : console x ≡ l) → ProgramLocation x l

  where_is : (x : ℕ) (l : Loc) → location_of set.program (bottom ∷ []) x ≡ Some l → ProgramLocation x l
  where_is x l e = by_variable (slice_get set.program.variables x) refl e
    where
      by_cell : (b : Bool) → cell_of x (if b then Some bottom else None) ≡ Some l → ProgramLocation x l
      by_cell true e = Global (same_Some (Cell [] 0 x) l e)
      by_cell false e = absurd (cc e)

      by_reference : (b : Bool) → reference_of x (if b then Some bottom else None) ≡ Some l → ProgramLocation x l
      by_reference true e = absurd (cc e)
      by_reference false e = absurd (cc e)

      by_role : (i : Variable) → slice_get set.program.variables x ≡ Some i → (r : Role) → i.role ≡ r
          → location_by (bottom ∷ []) x i r ≡ Some l → ProgramLocation x l
      by_role i v role.Console r e = Console (free.consoles x i v r).1 (same_Some (console x) l e)
      by_role i v role.Local r e = by_cell (i.block == 0) e
      by_role i v role.Value r e = by_cell (i.block == 0) e
      by_role i v role.Reference r e = by_reference (i.block == 0) e
      by_role i v role.Index r e = absurd (cc e)
      by_role i v role.Answer r e = by_cell (i.block == 0) e

      by_variable : (v : Option Variable) → slice_get set.program.variables x ≡ v → location_at (bottom ∷ []) x v
          ≡ Some l
          → ProgramLocation x l
      by_variable None v e = absurd (cc e)
      by_variable (Some i) v e = by_role i v i.role refl e

  right : (x : ℕ) (l : Loc) → ProgramLocation x l → OwnOrGiven First [] l
  right x l (Global e) = subst (OwnOrGiven First []) e (inl refl)
  right x l (Console lt e) = subst (OwnOrGiven First []) e (inr (at x))
    where
      at : (n : ℕ) → First [] (console n)
      at zero = tt
      at (suc n) = tt

  differ : (x y : ℕ) (l : Loc) → x ≢ y → ProgramLocation x l → ProgramLocation y l → ⊥
  differ x y l n (Global e) (Global d) = let h : Cell [] 0 x ≡ Cell [] 0 y = e ∙ sym d in n (cc h)
  differ x y l n (Global e) (Console lt d) = off y (e ∙ sym d)
    where
      off : (m : ℕ) → Cell [] 0 x ≡ console m → ⊥
      off zero h = absurd (cc h)
      off (suc m) h = absurd (cc h)
  differ x y l n (Console lt d) (Global e) = off x (e ∙ sym d)
    where
      off : (m : ℕ) → Cell [] 0 y ≡ console m → ⊥
      off zero h = absurd (cc h)
      off (suc m) h = absurd (cc h)
  differ x y l n (Console lt e) (Console lu d) = two x y lt lu (e ∙ sym d) n
    where
      two : (a b : ℕ) → a < 2 → b < 2 → console a ≡ console b → a ≢ b → ⊥
      two zero zero la lb h k = k refl
      two zero (suc b) la lb h k = absurd (cc h)
      two (suc a) zero la lb h k = absurd (cc h)
      two (suc a) (suc b) la lb h k = let s : suc a ≡ suc b = omega (arith, la, lb) in k s

  touched : (u : Use) (x : ℕ) (l : Loc) → Touches set.program (bottom ∷ []) u x l
      → Right set.program (OwnOrGiven First []) (OwnOrGiven First []) u l × ProgramLocation x l
  touched (Target y) x l t = (right x l (where_is x l t.1), where_is x l t.1)
  touched (Seen y) x l t = (right x l (where_is x l t.1), where_is x l t.1)
  touched _ _ _ t = absurd t

  pub body_sound : (b : Block) → slice_get set.program.blocks 0 ≡ Some b
      → Sound set.program (OwnOrGiven First []) (OwnOrGiven First []) (bottom ∷ []) (In_stmt b.body)
  body_sound b e = record {
    allowed = λ bs u r x l t. (touched u x l t).0;
    apart = λ bs cs u v r k x y l n t z. differ x y l n (touched u x l t).1 (touched v y l z).1;
    kept = λ u h. free.blocks 0 b e u h;
  }

  empty : Fit set.program (OwnOrGiven First []) (OwnOrGiven First []) (bottom ∷ []) (bottom ∷ []) []
  empty = record { linked = (refl, λ c f e. absurd (cc e), tt, tt); ready = tt; ends = refl }

  main_fit : (bs : List Block) → ((b : Block) → slice_get bs 0 ≡ Some b
      → Sound set.program (OwnOrGiven First []) (OwnOrGiven First []) (bottom ∷ []) (In_stmt b.body))
      → Fit set.program (OwnOrGiven First []) (OwnOrGiven First []) (bottom ∷ []) (bottom ∷ []) (main_items set bs)
  main_fit [] h = empty
  main_fit (b ∷ bs) h = go (nat_lt set.limits.cells (size_of_frame set 0))
    where
      go : (c : Bool) → Fit set.program (OwnOrGiven First []) (OwnOrGiven First []) (bottom ∷ []) (bottom ∷ [])
          (if c then Break fault.F12 ∷ [] else push b.body [])
      go true = record { linked = (refl, λ c f e. absurd (cc e), tt, tt); ready = tt; ends = refl }
      go false = push_good set.program (OwnOrGiven First []) (OwnOrGiven First []) (bottom ∷ []) (bottom ∷ []) b.body []
          (h b refl)
          empty

  opened : Inv set.program First First (first_condition {O = Process} {V = LocationContent} {T = Address} (root set))
      (λ q. 0)
  opened = record { holds = holds; unborn = λ q k i h. refl; fair = first_fair; unknown = λ q k i l h g. g }
    where
      holds : (q : Name) → ConditionInRights set.program First First (λ q. 0) q
          (first_condition {O = Process} {V = LocationContent} {T = Address} (root set) q)
      holds [] = record {
        named = refl;
        forked = refl;
        last = bottom ∷ [];
        fit = main_fit set.program.blocks (λ b e. body_sound b e);
      }
      holds (a ∷ q) = refl

  -- the whole
  pub disjoint : IsDisjointRun set
  disjoint = disjoint_from set (total_limits set) free First First (start set) opened
