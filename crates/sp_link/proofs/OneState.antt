-- Along a journal the meaning has one state at most, after one number of steps: a turn is a function of the state, and
-- so is the step of an entry. The way from the meaning back to the machine rests on it (`Replay`).
use Rattle.std.proofs.Common.{◌≡◌, ℕ, zero, suc, ◌+◌, List, [], ◌∷◌, Bool, true, false, refl, sym}
use Rattle.std.proofs.Common.{ap, ◌∙◌, subst}
use Rattle.std.proofs.lemmas.Option.{none-some, same_Some}
use Rattle.sp_meaning.specs.Entries.{Happening, Occurrence, Opened, Forked, Offered, Ended, Faulted, Laid, Paused}
use Rattle.sp_meaning.specs.LocalWork.{RunInput}
use Rattle.sp_meaning.specs.Runs.{StateOf, happening_at, start}
use Rattle.sp_meaning.specs.Along.{Either, is_due_after, Turn, JournalState, KernelStep, EntryStep, Along, IsAlong}
use Rattle.sp_meaning.specs.Along.{course_after, ticks_of}
use Rattle.sp_meaning.specs.Along.{before_entries}

module _ (g : RunInput) (turn since : ℕ) (who : List (ℕ × ℕ)) where
  -- two ends of a turn are one, after one number of steps
  pub record SameTurnEnd (n k : ℕ) (a b : StateOf g) (x y : Bool) : Type 0 where
    pub steps : n ≡ k
    pub state : a ≡ b
    pub paused : x ≡ y

  pub turn_one : (n k : ℕ) (s a b : StateOf g) (x y : Bool) → Turn g turn since who n s a x
      → Turn g turn since who k s b y → SameTurnEnd n k a b x y
  turn_one zero zero s a b x y one two =
      record { steps = refl; state = one.stays ∙ sym two.stays; paused = one.unpaused ∙ sym two.unpaused }
  turn_one zero (suc k) s a b x y one two =
      let same_process : one.process ≡ two.process = same_Some one.process two.process (sym one.runs ∙ two.runs) in
      absurd (none-some one.what (sym two.enters_none ∙ ap (λ z. happening_at g s who z) (sym same_process)
      ∙ one.happens))
  turn_one (suc n) zero s a b x y one two =
      let same_process : two.process ≡ one.process = same_Some two.process one.process (sym two.runs ∙ one.runs) in
      absurd (none-some two.what (sym one.enters_none ∙ ap (λ z. happening_at g s who z) (sym same_process)
      ∙ two.happens))
  turn_one (suc n) (suc k) s a b x y one two =
      by (is_due_after g turn since s one.process who one.next) one.ahead
      (subst (λ z. Either z ((k ≡ 0) × (b ≡ one.next) × (y ≡ true)) (Turn g turn since who k one.next b y)) due_is
      (subst (λ z. Either (is_due_after g turn since s two.process who two.next) ((k ≡ 0) × (b ≡ z) × (y ≡ true))
      (Turn g turn since who k z b y)) same_next two.ahead))
      (λ u v. turn_one n k one.next a b x y u v)
    where
      same_process : two.process ≡ one.process
      same_process = same_Some two.process one.process (sym two.runs ∙ one.runs)

      same_next : two.next ≡ one.next
      same_next = same_Some two.next one.next (sym two.steps ∙ one.steps)

      due_is : is_due_after g turn since s two.process who two.next
          ≡ is_due_after g turn since s one.process who one.next
      due_is = ap (λ z. is_due_after g turn since s z who two.next) same_process
          ∙ ap (λ z. is_due_after g turn since s one.process who z) same_next

      by : (z : Bool) → Either z ((n ≡ 0) × (a ≡ one.next) × (x ≡ true)) (Turn g turn since who n one.next a x)
          → Either z ((k ≡ 0) × (b ≡ one.next) × (y ≡ true)) (Turn g turn since who k one.next b y)
          → (Turn g turn since who n one.next a x → Turn g turn since who k one.next b y → SameTurnEnd n k a b x y)
          → SameTurnEnd (suc n) (suc k) a b x y
      by true u v go = record { steps = ap suc (u.0 ∙ sym v.0); state = u.1 ∙ sym v.1; paused = u.2 ∙ sym v.2 }
      by false u v go = let z = go u v in record { steps = ap suc z.steps; state = z.state; paused = z.paused }

module _ (g : RunInput) (turn : ℕ) where
  abbrev SameCountAndState : ℕ → ℕ → StateOf g → StateOf g → Type 0
  SameCountAndState n k a b = (n ≡ k) × (a ≡ b)

  -- what is left after an entry
  abbrev IsAlongRest : List Occurrence → StateOf g → JournalState → StateOf g → ℕ → Type 0
  IsAlongRest es t c s n = Along g turn c s es n t

  module _ (es : List Occurrence) (t v : StateOf g)
      (ih : (c : JournalState) (s : StateOf g) (n k : ℕ) → Along g turn c s es n t → Along g turn c s es k v
      → SameCountAndState n k t v)
      (c : JournalState) (m : StateOf g) (p : Bool) (q : List (ℕ × ℕ)) where
    kernel_one : (what : Happening) (n k : ℕ) → KernelStep g (IsAlongRest es t) c m p q what n
        → KernelStep g (IsAlongRest es v) c m p q what k → SameCountAndState n k t v
    kernel_one what n k (_, one) (_, two) =
        let same_next : two.next ≡ one.next =
        same_Some two.next one.next (sym two.makes.steps ∙ one.makes.steps) in
        let z = ih (course_after q what (ticks_of g one.next q) c) one.next one.rest two.rest one.ahead
        (subst (λ y. Along g turn (course_after q what (ticks_of g y q) c) y es two.rest v) same_next two.ahead) in
        (one.size ∙ ap suc z.0 ∙ sym two.size, z.1)

    -- after one entry from one state
    entry_one : (what : Happening) (n k : ℕ) → EntryStep g (IsAlongRest es t) c m p q what n
        → EntryStep g (IsAlongRest es v) c m p q what k → SameCountAndState n k t v
    entry_one Laid n k h i = ih _ m n k h.1 i.1
    entry_one Paused n k h i = ih _ m n k h.2 i.2
    entry_one (Forked j) n k h i = kernel_one (Forked j) n k h i
    entry_one Opened n k h i = kernel_one Opened n k h i
    entry_one (Offered w ch) n k h i = kernel_one (Offered w ch) n k h i
    entry_one Ended n k h i = kernel_one Ended n k h i
    entry_one (Faulted f) n k h i = kernel_one (Faulted f) n k h i

  pub along_one : (es : List Occurrence) (t v : StateOf g) (c : JournalState) (s : StateOf g) (n k : ℕ)
      → Along g turn c s es n t → Along g turn c s es k v → SameCountAndState n k t v
  along_one [] t v c s n k h i = (h.0 ∙ sym i.0, h.1 ∙ sym i.1)
  along_one (e ∷ es) t v c s n k one two =
      let z = turn_one g turn (c.since e.who) e.who two.steps one.steps s two.middle one.middle two.paused one.paused
      two.turns one.turns in
      let at : EntryStep g (IsAlongRest es v) c one.middle one.paused e.who e.what two.rest =
      subst (λ y. EntryStep g (IsAlongRest es v) c one.middle y e.who e.what two.rest) z.paused
      (subst (λ y. EntryStep g (IsAlongRest es v) c y two.paused e.who e.what two.rest) z.state two.enters) in
      let r = entry_one es t v (λ c1 s1 n1 k1 a b. along_one es t v c1 s1 n1 k1 a b) c one.middle one.paused e.who
      e.what one.rest two.rest one.enters at in (
        one.size ∙ ap (λ y. y + one.rest) (sym z.steps) ∙ ap (λ y. two.steps + y) r.0 ∙ sym two.size,
        r.1,
      )

-- from the start
pub one_state : (g : RunInput) (turn : ℕ) (es : List Occurrence) (n k : ℕ) (t v : StateOf g) → IsAlong g turn es n t
    → IsAlong g turn es k v → (n ≡ k) × (t ≡ v)
one_state g turn es n k t v h i = along_one g turn es t v before_entries (start g) n k h i
