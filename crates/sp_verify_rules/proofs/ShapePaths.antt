-- Ways with shapes are ways: what is reached lies in the area. And what the rules give of an instruction that is
-- reached.
use Rattle.std.proofs.Common.{◌≡◌, inl, inr, ⊎_elim, ℕ, zero, suc, ◌+◌, ◌∷◌, List, [], length, Option, Some, None, refl}
use Rattle.std.proofs.Common.{sym, subst}
use Rattle.sp_tree.specs.Interference.{IsMember}
use Rattle.sp_code.specs.declared.instr.Instr.{Instr}
use Rattle.sp_code.specs.declared.instr.Instr.TheVariants as i
use Rattle.sp_code.specs.declared.code.Parts.{Parts}
use Rattle.sp_code.specs.Machine.{layout_of}
use Rattle.sp_verify_rules.specs.Areas.{Area, on_option, variable_at, instr_at, entry}
use Rattle.sp_verify_rules.specs.Shapes.{Shape, O, C, L, A, Shaped, Wrong, To, take_o, take_c, take_a, take_value}
use Rattle.sp_verify_rules.specs.Shapes.{take_same}
use Rattle.sp_verify_rules.specs.Shapes.{take_cells, take_all, take_none, two_to_one, one_to_one, one_gone, two_gone}
use Rattle.sp_verify_rules.specs.Shapes.{read_shapes}
use Rattle.sp_verify_rules.specs.Shapes.{fill_shapes, loop_start_shapes, loop_end_shapes, instr_shapes}
use Rattle.sp_verify_rules.specs.Reach.{nexts, IsBrought, LeadsWith, LeadsInSteps, IsInCodeOf, IsArea}
use Rattle.sp_verify_rules.specs.Reach.{BringsShapes, Reaches}
use Rattle.sp_verify_rules.specs.NameRules.{LiesIn}
use Rattle.sp_verify_rules.specs.KeepsCodeRules.{KeepsCodeRules}
use Rattle.sp_verify_rules.proofs.OperandLaws.{AllReached, LeadsToReached}
use Rattle.sp_verify_rules.proofs.Turns.{Here}

-- each way is to one of these
abbrev EachIn : List ℕ → List (ℕ × List Shape) → Type 0
EachIn qs [] = Unit {0}
EachIn qs (w ∷ ws) = IsMember w.0 qs × EachIn qs ws

abbrev LeadsWithin : List ℕ → Shaped → Type 0
LeadsWithin qs Wrong = Unit {0}
LeadsWithin qs (To ws) = EachIn qs ws

module _ (qs : List ℕ) where
  by_o : (ss : List Shape) (k : List Shape → Shaped) → ((s1 : List Shape) → LeadsWithin qs (k s1))
      → LeadsWithin qs (take_o ss k)
  by_o [] k h = tt
  by_o (O ∷ ss) k h = h ss
  by_o (C ∷ ss) k h = tt
  by_o (L n ∷ ss) k h = tt
  by_o (A x n ∷ ss) k h = tt

  by_c : (ss : List Shape) (k : List Shape → Shaped) → ((s1 : List Shape) → LeadsWithin qs (k s1))
      → LeadsWithin qs (take_c ss k)
  by_c [] k h = tt
  by_c (O ∷ ss) k h = tt
  by_c (C ∷ ss) k h = h ss
  by_c (L n ∷ ss) k h = tt
  by_c (A x n ∷ ss) k h = tt

  by_a : (ss : List Shape) (k : ℕ → ℕ → List Shape → Shaped) → ((x n : ℕ) (s1 : List Shape) → LeadsWithin qs (k x n s1))
      → LeadsWithin qs (take_a ss k)
  by_a [] k h = tt
  by_a (O ∷ ss) k h = tt
  by_a (C ∷ ss) k h = tt
  by_a (L n ∷ ss) k h = tt
  by_a (A x n ∷ ss) k h = h x n ss

  by_value : (ss : List Shape) (k : List Shape → Shaped) → ((s1 : List Shape) → LeadsWithin qs (k s1))
      → LeadsWithin qs (take_value ss k)
  by_value [] k h = tt
  by_value (O ∷ ss) k h = h ss
  by_value (C ∷ ss) k h = h ss
  by_value (L n ∷ ss) k h = tt
  by_value (A x n ∷ ss) k h = tt

  by_same : (ss : List Shape) (k : List Shape → Shaped) → ((s1 : List Shape) → LeadsWithin qs (k s1))
      → LeadsWithin qs (take_same ss k)
  by_same [] k h = tt
  by_same (O ∷ ss) k h = by_o ss k h
  by_same (C ∷ ss) k h = by_c ss k h
  by_same (L n ∷ ss) k h = tt
  by_same (A x n ∷ ss) k h = tt

  by_cells : (ss : List Shape) (k : ℕ → List Shape → Shaped) → ((n : ℕ) (s1 : List Shape) → LeadsWithin qs (k n s1))
      → LeadsWithin qs (take_cells ss k)
  by_cells [] k h = tt
  by_cells (O ∷ ss) k h = h 1 ss
  by_cells (C ∷ ss) k h = h 1 ss
  by_cells (L n ∷ ss) k h = h n ss
  by_cells (A x n ∷ ss) k h = tt

  by_all : (n : ℕ) (ss : List Shape) (k : List Shape → Shaped) → ((s1 : List Shape) → LeadsWithin qs (k s1))
      → LeadsWithin qs (take_all n ss k)
  by_all zero ss k h = h ss
  by_all (suc n) [] k h = tt
  by_all (suc n) (s ∷ ss) k h = by_all n ss k h

  by_none : (ss : List Shape) → LeadsWithin qs (take_none ss)
  by_none [] = tt
  by_none (s ∷ ss) = tt

  by_given : {T : Type 0} (o : Option T) (k : T → Shaped) → ((x : T) → LeadsWithin qs (k x))
      → LeadsWithin qs (on_option Wrong o k)
  by_given None k h = tt
  by_given (Some x) k h = h x

-- on to the next one
abbrev next : ℕ → List ℕ
next p = (p + 1) ∷ []

on_two : (p : ℕ) (ss : List Shape) → LeadsWithin ((p + 1) ∷ []) (two_to_one p ss)
on_two p ss = by_o (next p) ss _ (λ s1. by_o (next p) s1 _ (λ s2. (inl refl, tt)))

on_one : (p : ℕ) (ss : List Shape) → LeadsWithin ((p + 1) ∷ []) (one_to_one p ss)
on_one p ss = by_o (next p) ss _ (λ s1. (inl refl, tt))

gone : (p : ℕ) (ss : List Shape) → LeadsWithin ((p + 1) ∷ []) (one_gone p ss)
gone p ss = by_o (next p) ss _ (λ s1. (inl refl, tt))

both_gone : (p : ℕ) (ss : List Shape) → LeadsWithin ((p + 1) ∷ []) (two_gone p ss)
both_gone p ss = by_o (next p) ss _ (λ s1. by_o (next p) s1 _ (λ s2. (inl refl, tt)))

reads : (s : Shape) (p : ℕ) (ss : List Shape) → LeadsWithin ((p + 1) ∷ []) (read_shapes s p ss)
reads s p ss = by_a (next p) ss _ (λ x n s1. (inl refl, tt))

fills : (p : ℕ) (ss : List Shape) → LeadsWithin ((p + 1) ∷ []) (fill_shapes p ss)
fills p ss = by_a (next p) ss _ (λ x n s1. (inl refl, tt))

begin : (p to : ℕ) (ss : List Shape) → LeadsWithin ((p + 1) ∷ to ∷ []) (loop_start_shapes p to ss)
begin p to ss = by_o ((p + 1) ∷ to ∷ []) ss _
    (λ s1. by_o ((p + 1) ∷ to ∷ []) s1 _ (λ s2. (inl refl, (inr (inl refl), tt))))

round : (p to : ℕ) (ss : List Shape) → LeadsWithin (to ∷ (p + 1) ∷ []) (loop_end_shapes p to ss)
round p to ss = by_o (to ∷ (p + 1) ∷ []) ss _ (λ s1. (inl refl, (inr (inl refl), tt)))

module _ (c : Parts) (a : Area) (p : ℕ) (ss : List Shape) where
  leads_on : (o : Option Instr) → LeadsWithin (nexts p o) (instr_shapes c a o p ss)
  leads_on None = tt
  leads_on (Some (i.Const v)) = (inl refl, tt)
  leads_on (Some (i.Addr up var)) = by_given (next p) (variable_at c a up var) _ (λ f. (inl refl, tt))
  leads_on (Some (i.Deref up var)) = by_given (next p) (variable_at c a up var) _ (λ f. (inl refl, tt))
  leads_on (Some (i.Index low high size)) = by_o (next p) ss _ (λ s1. by_a (next p) s1 _ (λ x n s2. (inl refl, tt)))
  leads_on (Some (i.Field k)) = by_a (next p) ss _ (λ x n s1. (inl refl, tt))
  leads_on (Some i.Load) = reads O p ss
  leads_on (Some i.Loadc) = reads C p ss
  leads_on (Some i.Store) = by_value (next p) ss _ (λ s1. fills p s1)
  leads_on (Some (i.Copy k)) = by_a (next p) ss _ (λ x n s1. fills p s1)
  leads_on (Some i.Add) = on_two p ss
  leads_on (Some i.Sub) = on_two p ss
  leads_on (Some i.Mul) = on_two p ss
  leads_on (Some i.Div) = on_two p ss
  leads_on (Some i.Mod) = on_two p ss
  leads_on (Some i.Neg) = on_one p ss
  leads_on (Some i.Abs) = on_one p ss
  leads_on (Some i.Sqr) = on_one p ss
  leads_on (Some i.Odd) = on_one p ss
  leads_on (Some i.And) = on_two p ss
  leads_on (Some i.Or) = on_two p ss
  leads_on (Some i.Not) = on_one p ss
  leads_on (Some i.Eq) = by_same (next p) ss _ (λ s1. (inl refl, tt))
  leads_on (Some i.Ne) = by_same (next p) ss _ (λ s1. (inl refl, tt))
  leads_on (Some i.Lt) = on_two p ss
  leads_on (Some i.Le) = on_two p ss
  leads_on (Some i.Gt) = on_two p ss
  leads_on (Some i.Ge) = on_two p ss
  leads_on (Some (i.Range low high)) = on_one p ss
  leads_on (Some (i.Succ high)) = on_one p ss
  leads_on (Some (i.Pred low)) = on_one p ss
  leads_on (Some (i.Jump to)) = (inl refl, tt)
  leads_on (Some (i.Jumpf to)) = by_o ((p + 1) ∷ to ∷ []) ss _ (λ s1. (inl refl, (inr (inl refl), tt)))
  leads_on (Some (i.Casej v to)) = by_o ((p + 1) ∷ to ∷ []) ss _ (λ s1. (inl refl, (inr (inl refl), tt)))
  leads_on (Some i.Tick) = (inl refl, tt)
  leads_on (Some (i.Forup var to)) = begin p to ss
  leads_on (Some (i.Fordown var to)) = begin p to ss
  leads_on (Some (i.Nextup var to)) = round p to ss
  leads_on (Some (i.Nextdown var to)) = round p to ss
  leads_on (Some (i.Call b up)) = by_given (next p) (layout_of c.layouts b) _
      (λ l. by_all (next p) (length l.formals) ss _ (λ s1. (inl refl, tt)))
  leads_on (Some i.Return) = by_none [] ss
  leads_on (Some i.ReadInt) = fills p ss
  leads_on (Some i.ReadChar) = fills p ss
  leads_on (Some i.Readln) = (inl refl, tt)
  leads_on (Some i.Eof) = (inl refl, tt)
  leads_on (Some i.Eoln) = (inl refl, tt)
  leads_on (Some (i.WriteText k)) = (inl refl, tt)
  leads_on (Some i.WritewInt) = both_gone p ss
  leads_on (Some i.WritewChar) = both_gone p ss
  leads_on (Some i.WritewBool) = both_gone p ss
  leads_on (Some i.Writeln) = (inl refl, tt)
  leads_on (Some (i.Pack k)) = reads (L k) p ss
  leads_on (Some i.Open) = fills p ss
  leads_on (Some (i.Send k)) = by_cells (next p) ss _ (λ n s1. by_c (next p) s1 _ (λ s2. (inl refl, tt)))
  leads_on (Some (i.Receive k)) = by_a (next p) ss _ (λ x n s1. by_c (next p) s1 _ (λ s2. (inl refl, tt)))
  leads_on (Some (i.Fork t)) = (inl refl, tt)
  leads_on (Some (i.Forall t)) = both_gone p ss
  leads_on (Some i.End) = by_none [] ss
  leads_on (Some _) = gone p ss

one_of : (qs : List ℕ) (q : ℕ) (ts : List Shape) (ws : List (ℕ × List Shape)) → EachIn qs ws → IsBrought q ts ws
    → IsMember q qs
one_of qs q ts [] e h = absurd h
one_of qs q ts (w ∷ ws) e h = ⊎_elim (λ z. rw z.0 e.0) (λ z. one_of qs q ts ws e.1 z) h

leads_in : (qs : List ℕ) (o : Shaped) (q : ℕ) (ts : List Shape) → LeadsWithin qs o → LeadsWith o q ts → IsMember q qs
leads_in qs Wrong q ts w h = absurd h
leads_in qs (To ws) q ts w h = one_of qs q ts ws w h

module _ (c : Parts) where
  -- one step more, at the end
  goes_one : (n p q r : ℕ) → LeadsInSteps c n p q → IsMember r (nexts q (instr_at c q)) → LeadsInSteps c (suc n) p r
  goes_one zero p q r e h = (r, subst (λ z. IsMember r (nexts z (instr_at c z))) (sym e) h, refl)
  goes_one (suc n) p q r g h = (g.0, g.1, goes_one n g.0 q r g.2 h)

  brings_passes : (a : Area) (n q : ℕ) (ts : List Shape) → BringsShapes c a n q ts → LeadsInSteps c n (entry c a) q
  brings_passes a zero q ts b = sym b.0
  brings_passes a (suc n) q ts (p, ss, before, leads) = goes_one n (entry c a) p q (brings_passes a n p ss before)
      (leads_in (nexts p (instr_at c p)) (instr_shapes c a (instr_at c p) p ss) q ts
      (leads_on c a p ss (instr_at c p)) leads)

  -- what shapes reach is in the area
  pub passes : (a : Area) (p : ℕ) (ss : List Shape) → Reaches c a p ss → IsInCodeOf c a p
  passes a p ss r = record { steps = r.steps; way = brings_passes a r.steps p ss r.way }

  -- each way of an instruction that is reached leads to what is reached
  module _ (a : Area) (p : ℕ) (ss : List Shape) (r : Reaches c a p ss) where
    all_reached : (ws vs : List (ℕ × List Shape))
        → ((q : ℕ) (ts : List Shape) → IsBrought q ts vs → LeadsWith (instr_shapes c a (instr_at c p) p ss) q ts)
        → AllReached c a vs
    all_reached ws [] h = tt
    all_reached ws (v ∷ vs) h = (
      record { steps = suc r.steps; way = (p, ss, r.way, h v.0 v.1 (inl (refl, refl))) },
      all_reached ws vs (λ q ts z. h q ts (inr z)),
    )

    pub good : (instr_shapes c a (instr_at c p) p ss ≡ Wrong → ⊥)
        → LeadsToReached c a (instr_shapes c a (instr_at c p) p ss)
    good right = go (instr_shapes c a (instr_at c p) p ss) refl
      where
        go : (o : Shaped) → instr_shapes c a (instr_at c p) p ss ≡ o → LeadsToReached c a o
        go Wrong e = absurd (right e)
        go (To ws) e = all_reached ws ws (λ q ts z. subst (λ o. LeadsWith o q ts) (sym e) z)

  -- what the rules give there
  pub here : KeepsCodeRules c → (a : Area) (p : ℕ) (ss : List Shape) → IsArea c a → Reaches c a p ss
      → Here c a p ss (instr_at c p)
  here k a p ss th r =
      let lies : LiesIn c p a = (th, passes a p ss r) in
      record {
        instruction_is = refl;
        good = good a p ss r (k.right a p ss (th, r));
        within = k.within a p ss (th, r);
        fits = k.fits a p ss (th, r);
        named = k.there p;
        levels = k.levels a p lies;
        ends = k.ends a p lies;
        names = k.names a p lies;
        loops = k.loops a p lies;
      }
