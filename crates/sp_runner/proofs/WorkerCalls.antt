-- Each call of a worker gives what the one before it got: its own notes say so, one by one.
use Rattle.std.proofs.Common.{◌≡◌, ◌⊎◌, inl, inr, ℕ, false, List, [], ◌∷◌, ◌++◌, Option, Some, None, refl, sym, ap, ◌∙◌}
use Rattle.std.proofs.Common.{subst}
use Rattle.std.specs.Option.{option_map}
use mathlib.Core.List.{append-nil}
use Rattle.sp_journal.specs.declared.entry.Note.{Note}
use Rattle.sp_code.specs.WorkerHistory.{OneByOne}
use Rattle.sp_room.specs.History.{note_list}
use Rattle.sp_room.specs.RoomRule.{Called, Declined}
use Rattle.sp_room.specs.declared.view.View.{View}
use Rattle.sp_kernel.specs.declared.handed.Handed.{Handed}
use Rattle.sp_kernel.specs.declared.kernel.Kernel.{Kernel}
use Rattle.sp_kernel.specs.declared.ask.Ask.{Ask}
use Rattle.sp_kernel.specs.declared.ask.Ask.TheVariants as ask
use Rattle.sp_kernel.specs.declared.ask.Got.{Got}
use Rattle.sp_kernel.specs.declared.ask.Got.TheVariants as got
use Rattle.sp_kernel.specs.Asks.{KernelSteps, GotMatchesNote, is_abandon, refusal, given_by}
use Rattle.sp_runner.specs.Works.{last_got, IsNextAsk}

one_more : (o : Option ℕ) (ns : List Note) (n : Note) → OneByOne o ns → n.given ≡ last_got o ns
    → OneByOne o (ns ++ n ∷ [])
one_more o [] n x e = (e, tt {0})
one_more o (m ∷ ms) n x e = (x.0, one_more m.got ms n x.1 e)

last_more : (o : Option ℕ) (ns : List Note) (n : Note) → last_got o (ns ++ n ∷ []) ≡ n.got
last_more o [] n = refl
last_more o (m ∷ ms) n = last_more m.got ms n

-- what a worker holds after this answer
abbrev pub got_in : Got → Option ℕ
got_in (got.Work p) = Some p.number
got_in got.Nothing = None
got_in got.Finished = None
got_in (got.Refused h) = given_by (ask.Turn h)

-- the notes are one by one, and the last got what the answer holds
abbrev pub IsAfter : List Note → Got → Type 0
IsAfter own r = OneByOne None own × (last_got None own ≡ got_in r)

module _ (x : Kernel) (v w : View Kernel Note) (a : Ask) (r : Got) (next : IsNextAsk v.own a) where
  kept : w.own ≡ v.own → given_by a ≡ got_in r → IsAfter w.own r
  kept e f = subst (λ ns. IsAfter ns r) (sym e) (next.0, next.1 ∙ f)

  after_call : Called KernelSteps x v a r w → IsAfter w.own r
  after_call c = go c.note a refl r refl c.answer c.own
    where
      told : (s : Got) → s ≡ r → (q : Option ℕ) → GotMatchesNote c.left s q → q ≡ got_in r
      told (got.Work p) e None t = absurd t
      told (got.Work p) e (Some q) t = ap (λ i. Some i) (sym t.0) ∙ ap got_in e
      told got.Nothing e None t = ap got_in e
      told got.Nothing e (Some q) t = absurd t
      told got.Finished e None t = ap got_in e
      told got.Finished e (Some q) t = absurd t
      told (got.Refused h) e q t = absurd t

      go : (o : Option Note) (b : Ask) → b ≡ a → (s : Got) → s ≡ r → KernelSteps c.met v.number b c.left s o
          → w.own ≡ v.own
          ++ note_list o → IsAfter w.own r
      go None (ask.Turn None) e s f t own = kept (own ∙ append-nil v.own) (ap given_by (sym e)
          ∙ told s f None (subst (λ (y : Kernel). GotMatchesNote y s None) (sym t.0) t.1))
      go None (ask.Turn (Some h)) e s f t own = kept (own ∙ append-nil v.own) (ap given_by (sym e)
          ∙ ap got_in (sym t.1 ∙ f))
      go None (ask.Abandon q) e s f t own = absurd t.1
      go (Some n) b e s f t own =
          subst (λ ns. IsAfter ns r) (sym own) (
            one_more None v.own n next.0 (t.given ∙ ap given_by e ∙ sym next.1),
            last_more None v.own n
                ∙ told s f n.got t.answer,
          )

  after_none : Declined KernelSteps refusal x v a r w → IsAfter w.own r
  after_none d = go a refl d.answer
    where
      go : (b : Ask) → b ≡ a → refusal b r → IsAfter w.own r
      go (ask.Turn h) e f = kept d.own (ap given_by (sym e) ∙ ap got_in (sym f))
      go (ask.Abandon q) e f = absurd f

  pub after : Called KernelSteps x v a r w ⊎ ((is_abandon a ≡ false) × Declined KernelSteps refusal x v a r w)
      → IsAfter w.own r
  after (inl c) = after_call c
  after (inr d) = after_none d.1

-- who gives up hands in what it held
pub gives_up_next : (own : List Note) (h : Option Handed) → IsAfter own (got.Refused h)
    → IsNextAsk own (ask.Abandon (option_map (λ (i : Handed). i.proc) h))
gives_up_next own None n = n
gives_up_next own (Some h) n = n

-- a worker that has done nothing holds nothing
pub starts_next : (own : List Note) → own ≡ [] → IsNextAsk own (ask.Turn None)
starts_next own e = subst (λ ns. IsNextAsk ns (ask.Turn None)) (sym e) (tt {0}, refl)
