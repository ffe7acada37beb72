-- Areas of code that do something: what is known of one instruction after the other is known of all.
use Rattle.std.proofs.Common.{◌≡◌, ◌⊎◌, inl, inr, ⊎_elim, ap, sym, ◌∙◌, subst, ℕ, ◌+◌, ◌==◌, List, []}
use Rattle.std.proofs.Common.{length, Option, None, Bool, true, ◌||◌, arith}
use Rattle.std.proofs.lemmas.Bool.{eq-eqb, or_left, or_right}
use Rattle.std.proofs.lemmas.Option.{none-some}
use Rattle.sp_base.proofs.Facts.{below_or_last}
use Rattle.sp_tree.specs.Interference.{IsMember}
use Rattle.sp_code.specs.declared.code.ForkTable.{ForkTable}
use Rattle.sp_code.specs.declared.code.Parts.{Parts}
use Rattle.sp_code.specs.declared.instr.Instr.{Instr}
use Rattle.sp_verify_rules.specs.Areas.{Area, child_of, entry, instr_at, table_at, table_named}
use Rattle.sp_verify_rules.specs.Effects.{EffectKind, Stored, Loaded, does_at}
use Rattle.sp_verify_rules.specs.NameRules.{BreaksV1, LiesIn}
use Rattle.sp_verify_rules.specs.Shapes.{Shape}
use Rattle.sp_verify_rules.specs.Touches.{loaded_by, stored_by}
use Rattle.sp_verify_areas.specs.Alone.{Marks, flag_at}
use Rattle.sp_verify_areas.specs.Only.{LiesOnlyIn}
use Rattle.sp_verify_shapes.specs.Repeats.{called_block}
use Rattle.sp_verify_effects.specs.Acts.{Acts, AreActsOf}
use Rattle.sp_verify_effects.proofs.EdgeRows.{entry_within}

-- ---- one instruction

module _ (c : Parts) (p : ℕ) where
  pub none_done : (o : Option Instr) → instr_at c p ≡ o → ((a : Area) (ss : List Shape) → stored_by c a o ss ≡ [])
      → ((a : Area) (ss : List Shape) → loaded_by c a o ss ≡ []) → (u : EffectKind) (a : Area) (ss : List Shape)
      → does_at c u a p ss ≡ []
  none_done o e s l Stored a ss = ap (λ z. stored_by c a z ss) e ∙ s a ss
  none_done o e s l Loaded a ss = ap (λ z. loaded_by c a z ss) e ∙ l a ss

  pub no_act : table_at c.forks (table_named (instr_at c p)) ≡ None → called_block (instr_at c p) ≡ None
      → ((u : EffectKind) (a : Area) (ss : List Shape) → does_at c u a p ss ≡ []) → (a : Area) → Acts c a p → ⊥
  no_act t b none a (inl (u, ss, x, m)) = subst (IsMember x) (none u a ss) m
  no_act t b none a (inr (inl (k, ch, e))) = none-some ch (sym (ap (λ (o : Option ForkTable). child_of o k) t) ∙ e)
  no_act t b none a (inr (inr (f, up, e))) = none-some f (sym b ∙ ap called_block e)

-- ---- one more

module _ (c : Parts) (kept : (q : ℕ) → BreaksV1 c q → ⊥) (p : ℕ) (old : List Bool) (before : AreActsOf c p old) where
  pub acts_same : ((a : Area) → LiesIn c p a → Acts c a p → ⊥) → AreActsOf c (p + 1) old
  acts_same never a q l lies act = ⊎_elim (λ z. before a q z lies act)
      (λ s. absurd (never a (subst (λ z. LiesIn c z a) s lies) (subst (Acts c a) s act))) (below_or_last q p l)

  pub acts_marked : (new : List Bool) (a : Area) (n : ℕ) → length old ≡ length c.instrs → LiesOnlyIn c p a
      → entry c a ≡ n
      → Marks old new n → AreActsOf c (p + 1) new
  acts_marked new a n size only at m b q l lies act = m.1 (entry c b)
      (let w = entry_within c kept b lies.0 in omega (arith, w, size)) ∙ go
    where
      go : ((n == entry c b) || flag_at old (entry c b)) ≡ true
      go = ⊎_elim (λ z. or_right (n == entry c b) (flag_at old (entry c b)) (before b q z lies act))
          (λ s. or_left (n == entry c b) (flag_at old (entry c b))
          (eq-eqb n (entry c b) (sym (ap (entry c) (only.1 b (subst (λ z. LiesIn c z b) s lies)) ∙ at))))
          (below_or_last q p l)

pub no_acts : (c : Parts) (flags : List Bool) → AreActsOf c 0 flags
no_acts c flags a q l lies act = absurd (omega (arith, l))
