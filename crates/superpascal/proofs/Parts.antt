-- From what the steps of a command give to the cause of its answer: of the commands that answer from the text alone, of
-- `run` and `witness`, and of `gen`.
use Rattle.std.proofs.Common.{◌≡◌, inl, inr, ℕ, ◌<◌, List, [], length, Option, Some, None, Result, Ok, Err}
use Rattle.std.proofs.Common.{refl, sym, ◌∙◌, ap, subst}
use Rattle.std.specs.Prelude.{IfSome, ◌↔◌, option_and_then}
use Rattle.sp_base.specs.declared.halt.Halt.{Halt}
use Rattle.sp_base.specs.declared.halt.Halt.TheVariants as halt
use Rattle.sp_base.specs.declared.halt.Refusal.{Refusal}
use Rattle.sp_base.specs.declared.limits.Limits.{Limits}
use Rattle.sp_code.specs.declared.code.Parts.{Parts}
use Rattle.sp_codefile.specs.CodeText.{IsTextOf}
use Rattle.sp_front.specs.Codes.{Accepts, IsCompiled}
use Rattle.sp_front.specs.declared.to_code.CompiledText.{CompiledText}
use Rattle.sp_execute.specs.declared.execution.Ran.{Ran}
use Rattle.sp_format.specs.Formats.{Formats}
use Rattle.sp_gen.specs.GeneratedText.{generated_text}
use Rattle.sp_outside.specs.Counts.{Rose}
use Rattle.sp_tree.specs.CheckedOf.{program_of}
use Rattle.sp_tree.specs.PlainChecked as c
use Rattle.sp_words.specs.Ranges.{default_limits}
use Rattle.sp_words.specs.declared.command.Command.{Command}
use Rattle.sp_words.specs.declared.command.Command.TheVariants as command
use Rattle.sp_words.specs.declared.requests.RunRequest.{RunRequest}
use Rattle.superpascal.specs.declared.ending.Answer.{Answer}
use Rattle.superpascal.specs.declared.ending.Ending.{Ending}
use Rattle.superpascal.specs.declared.ending.Ending.TheVariants as e
use Rattle.sp_words.specs.declared.requests.Telling.{Telling}
use Rattle.superpascal.specs.AnswerParts.{AnswersEnding, HasCode, ending_answer, ending_of_halt}
use Rattle.superpascal.specs.Causes.{Cause, by_words, before_words, by_command, Due, by_run, by_generated, by_text}
use Rattle.superpascal.specs.Causes.{by_code, by_rule, by_library, by_source, by_length, by_memory, Files, IsKnownAs}
use Rattle.superpascal.specs.Causes.{IsUntouched, ReadsAfterRules, Stream, accepted_answer, answer_without_output}
use Rattle.superpascal.specs.Runs.{IsRunOf, Reports}
use Rattle.superpascal.specs.Steps.{AnswersCommand, AnswersText, AnswersWords, CommandCause, CompilesTo, GivesCode}
use Rattle.superpascal.specs.Steps.{GivesInput}
use Rattle.superpascal.specs.Steps.{HasInput, LoadFails, IsSaidOf, IsUnready, ReadsCommand, ReportsGenerated}
use Rattle.superpascal.specs.Steps.{ReportsRun}
use Rattle.superpascal.specs.Steps.{TellsSets, TextCause, length_refusal}
use Rattle.superpascal.specs.Texts.{FirstBrokenFor, FirstBroken, CanRead, HasCodeText, IsAcceptedText, Makes}
use Rattle.superpascal.specs.Texts.{text_of}
use Rattle.superpascal.proofs.Laws.{IsAbout, long_breaks}

-- ---- what is told

-- what holds of a told text holds of what is told
pub when_told : (P : List ℕ → Type 0) (o : Option (List ℕ)) (text : List ℕ) → IsKnownAs o text → P text → IfSome o P
when_told P None text h k = tt
when_told P (Some all) text h k = subst P h k

pub if_mapped : (P Q : List ℕ → Type 0) (o : Option (List ℕ)) → ((x : List ℕ) → P x → Q x) → IfSome o P → IfSome o Q
if_mapped P Q None g h = tt
if_mapped P Q (Some x) g h = g x h

-- bytes for which the library says so are more than its limit
pub is_longer : (o : Option (List ℕ)) (limit : ℕ) (P Q : Type 0) → IfSome o (λ all. P ↔ ((limit < length all) × Q)) → P
    → IfSome o (λ all. limit < length all)
is_longer None limit P Q h p = tt
is_longer (Some all) limit P Q h p = (h.0 p).0

long_broken : (d : Command) (name : List ℕ) (o : Option (List ℕ)) → IsAbout d name
    → IfSome o (λ all. 1048576 < length all) → IfSome o (λ text. FirstBrokenFor d text length_refusal)
long_broken d name o about h = if_mapped _ (λ text. FirstBrokenFor d text length_refusal) o
    (λ all. long_breaks d name all about) h

-- at the exit of a step that has ended the command
pub at_exit : {T : Type 0} (F : Result T Ending → Type 0) (r : Result T Ending) (x : Ending)
    → ((y : Ending) × (r ≡ Err y) × (y ≡ x)) → F (Err x) → F r
at_exit F r x (y, h, k) m = subst F (sym (h ∙ ap Err k)) m

-- of an answer that is said so, another is said
pub said : (P Q : Answer → Type 0) → ((a : Answer) → P a → Q a) → (r : Result Answer Ending) → IsSaidOf P r
    → IsSaidOf Q r
said P Q g (Ok a) h = g a h
said P Q g (Err x) h = g (ending_answer x) h

-- ---- the code of a text

-- the code of a text
has_code : (text : List ℕ) (r : CompiledText) → IsCompiled text r → HasCode text (program_of r.accepted.checked) r.code
has_code text r h = record { has = record { accepted = h.accepted; short = h.short }; code = h.code }

-- the code that was taken out of it
pub compiled_code : (text : List ℕ) (r : CompiledText) (code : Parts) → code ≡ r.code → IsCompiled text r
    → (t : c.Program) × HasCode text t code
compiled_code text r code i k = (
  program_of r.accepted.checked,
  subst (λ (x : Parts). HasCode text (program_of r.accepted.checked) x) (sym i) (has_code text r k),
)

pub unready : (f : Files) (name : List ℕ) (x : Ending) → LoadFails f name 1048576 (e.Refused length_refusal) x
    → IsUnready f name x
unready f name x (inl h) = inl (
  length_refusal,
  h.0,
  long_broken (command.Check name) name (f.held name) (refl, λ k. k) h.1,
)
unready f name x (inr h) = inr h

pub given_code : (f : Files) (name text : List ℕ) → IsKnownAs (f.held name) text → (r : Result Parts Ending)
    → CompilesTo text r → GivesCode f name r
given_code f name text t (Ok code) (tree, h) = (text, t, tree, h)
given_code f name text t (Err x) (inl (r, h, b)) = inl
    (r, h, when_told (λ y. FirstBroken y r) (f.held name) text t b)
given_code f name text t (Err x) (inr h) = inr (inr h)

pub keeps_code : (text : List ℕ) (tree : c.Program) (code : Parts) → HasCode text tree code → IsAcceptedText text
keeps_code text tree code h = (tree, h.has.accepted, h.has.short)

-- ---- commands that answer from the text alone

-- the text of a command is the one under the name that it is about
held_of : (f : Files) (d : Command) (name : List ℕ) → IsAbout d name → text_of f.held d ≡ f.held name
held_of f (command.Gen size workers) name h = absurd (cc h.0)
held_of f _ _ h = ap (option_and_then f.held) h.0

module _ (f : Files) (d : Command) (name : List ℕ) (about : IsAbout d name) where
  to_text : (P : Option (List ℕ) → Type 0) → P (f.held name) → P (text_of f.held d)
  to_text P h = subst P (sym (held_of f d name about)) h

  refuses : (r : Refusal) (x : Ending) → x ≡ e.Refused r → IfSome (f.held name) (λ text. FirstBrokenFor d text r)
      → TextCause f d (ending_answer x)
  refuses r x h b = inr (inr (inl (record {
    refusal = r;
    breaks = to_text (λ o. IfSome o (λ y. FirstBrokenFor d y r)) b;
    answer = ap ending_answer h;
  })))

  fails : (x : Ending) → x ≡ e.ReadFault → Rose (f.before name) (f.after name) → TextCause f d (ending_answer x)
  fails x h r = inr (inr (inr (inl
      (record { name = name; loads = inl about.0; rose = r; answer = ap ending_answer h }))))

  -- a text that is not loaded
  pub text_kept_back : (x : Ending) → LoadFails f name 1048576 (e.Refused length_refusal) x
      → TextCause f d (ending_answer x)
  text_kept_back x (inl h) = refuses length_refusal x h.0 (long_broken d name (f.held name) about h.1)
  text_kept_back x (inr (inl h)) = fails x h.0 h.1
  text_kept_back x (inr (inr h)) = inr (inr (inr (inr (ap ending_answer h))))

  -- a text of which no code comes, of a command that goes through all rules
  pub text_unready : ((text : List ℕ) (r : Refusal) → FirstBroken text r → FirstBrokenFor d text r) → (x : Ending)
      → IsUnready f name x → TextCause f d (ending_answer x)
  text_unready all x (inl (r, h, b)) = refuses r x h
      (if_mapped (λ y. FirstBroken y r) (λ y. FirstBrokenFor d y r) (f.held name) (λ y. all y r) b)
  text_unready all x (inr (inl h)) = fails x h.0 h.1
  text_unready all x (inr (inr h)) = inr (inr (inr (inr (ap ending_answer h))))

  -- one that breaks a rule of the command
  pub text_refused : (text : List ℕ) → IsKnownAs (f.held name) text → (r : Refusal) → FirstBrokenFor d text r
      → TextCause f d (ending_answer (e.Refused r))
  text_refused text t r b = refuses r (e.Refused r) refl (when_told (λ y. FirstBrokenFor d y r) (f.held name) text t b)

  -- what is made of it
  pub text_made : (text : List ℕ) → IsKnownAs (f.held name) text → (out line : List ℕ) → Makes d text out line
      → (a : Answer) → a ≡ accepted_answer out line → TextCause f d a
  text_made text t out line m a h = inl (record {
    text = text;
    loaded = to_text (λ o. IsKnownAs o text) t;
    output = out;
    line = line;
    makes = m;
    answer = h;
  })

-- a text that is not accepted, or of which no sets, or no layout, are made
pub check_halted : (f : Files) (file text : List ℕ) → IsKnownAs (f.held file) text → (h : Halt) → Accepts text (Err h)
    → TextCause f (command.Check file) (ending_answer (ending_of_halt h))
check_halted f file text t (halt.Refused r) b = text_refused f (command.Check file) file (refl, λ k. k) text t r b
check_halted f file text t halt.Memory b = inr (inr (inr (inr refl)))

pub sets_halted : (f : Files) (file text : List ℕ) → IsKnownAs (f.held file) text → (h : Halt) → TellsSets text (Err h)
    → TextCause f (command.Sets file) (ending_answer (ending_of_halt h))
sets_halted f file text t (halt.Refused r) b = text_refused f (command.Sets file) file (refl, λ k. k) text t r b
sets_halted f file text t halt.Memory b = inr (inr (inr (inr refl)))

pub layout_halted : (f : Files) (file text : List ℕ) → IsKnownAs (f.held file) text → (h : Halt) → Formats text (Err h)
    → TextCause f (command.Format file) (ending_answer (ending_of_halt h))
layout_halted f file text t (halt.Refused r) b = text_refused f (command.Format file) file (refl, λ k. k) text t r b
layout_halted f file text t halt.Memory b = inr (inr (inr (inr refl)))

-- the text of the code of a text
pub has_code_text : (text : List ℕ) (tree : c.Program) (code : Parts) (out : List ℕ) → HasCode text tree code
    → IsTextOf code out → HasCodeText text out
has_code_text text tree code out h o = (tree, h.has.accepted, h.has.short, code, h.code, o)

-- the code of the text is too long for a file
pub code_long : (f : Files) (file text : List ℕ) → IsKnownAs (f.held file) text → (out : List ℕ) → HasCodeText text out
    → 67108864 < length out → TextCause f (command.Build file) (ending_answer e.LongCode)
code_long f file text t out h long = inr
    (inl (record { builds = tt; text = text; loaded = t; long = (out, h, long); answer = refl }))

due_of_text : (f : Files) (s : Stream) (reports : Reports) (d : Command) (a : Answer) → TextCause f d a
    → Due f s reports d a
due_of_text f s reports d a (inl h) = by_text h
due_of_text f s reports d a (inr (inl h)) = by_code h
due_of_text f s reports d a (inr (inr (inl h))) = by_rule h
due_of_text f s reports d a (inr (inr (inr (inl h)))) = by_library h
due_of_text f s reports d a (inr (inr (inr (inr h)))) = by_memory h

pub cause_of_text : (f : Files) (s : Stream) (reports : Reports) (d : Command) → IsUntouched s → (a : Answer)
    → TextCause f d a → CommandCause f s reports d a
cause_of_text f s reports d u a h = (due_of_text f s reports d a h, inl u)

-- of a command that is known
pub command_by : (f : Files) (s : Stream) (reports : Reports) (d x : Command) (r : Result Answer Ending) → d ≡ x
    → AnswersCommand f s reports x r → AnswersCommand f s reports d r
command_by f s reports d x r h k = subst (λ (y : Command). AnswersCommand f s reports y r) (sym h) k

pub text_command_by : (f : Files) (s : Stream) (reports : Reports) (d x : Command) (r : Result Answer Ending) → d ≡ x
    → IsUntouched s → AnswersText f x r → AnswersCommand f s reports d r
text_command_by f s reports d x r h u k = command_by f s reports d x r h
    (said (TextCause f x) (CommandCause f s reports x) (cause_of_text f s reports x u) r k)

-- ---- `run` and `witness`

module _ (f : Files) (s : Stream) (reports : Reports) (b : RunRequest) where
  abbrev Due_run : Answer → Type 0
  Due_run a = CommandCause f s reports (command.Run b) a

  -- no code comes of the text
  pub run_unready : IsUntouched s → (x : Ending) → IsUnready f b.file x → Due_run (ending_answer x)
  run_unready u x h = cause_of_text f s reports (command.Run b) u (ending_answer x)
      (text_unready f (command.Run b) b.file (refl, λ k. k) (λ text r h. h) x h)

  module _ (text : List ℕ) (t : IsKnownAs (f.held b.file) text) (tree : c.Program) (code : Parts)
      (has : HasCode text tree code) where
    can_read : CanRead f.held (command.Run b)
    can_read = when_told IsAcceptedText (f.held b.file) text t (keeps_code text tree code has)

    reads : ReadsAfterRules f s (command.Run b)
    reads = inr can_read

    -- memory was wanting for the run, or for what is told of it
    pub run_wanting : (x : Ending) → x ≡ e.OutOfMemory → Due_run (ending_answer x)
    run_wanting x h = (by_memory (ap ending_answer h), reads)

    -- the input is not read
    pub run_unread : (x : Ending) → GivesInput s (Err x) → Due_run (ending_answer x)
    run_unread x (inl h) = (by_source (record { reads = can_read; rose = h.1; answer = ap ending_answer h.0 }), reads)
    run_unread x (inr (inl h)) =
        (by_length (record { reads = can_read; long = h.1; answer = ap ending_answer h.0 }), reads)
    run_unread x (inr (inr h)) = run_wanting x h

    pub run_told : (input : List ℕ) → HasInput s input → (ran : Ran) → IsRunOf text input b.workers b.limits ran
        → (r : Result Answer Ending) → ReportsRun reports b.telling ran r
        → AnswersCommand f s reports (command.Run b) r
    run_told input i ran is (Ok a) k = (
      by_run b refl (record {
        text = text;
        input = input;
        ran = ran;
        loaded = t;
        read = i.read;
        fits = i.fits;
        at_end = i.at_end;
        is_run = is;
        answer = k;
      }),
      reads,
    )
    run_told input i ran is (Err x) k = run_wanting x k

-- the answer to a telling that is known
pub told_by : (reports : Reports) (t u : Telling) (ran : Ran) (r : Result Answer Ending) → t ≡ u
    → ((made : Reports) → ReportsRun made u ran r) → ReportsRun reports t ran r
told_by reports t u ran r h k = subst (λ (x : Telling). ReportsRun reports x ran r) (sym h) (k reports)

-- ---- `gen`

module _ (f : Files) (s : Stream) (reports : Reports) (size workers : ℕ) (u : IsUntouched s) where
  abbrev Due_generated : Answer → Type 0
  Due_generated a = CommandCause f s reports (command.Gen size workers) a

  pub generated_wanting : (x : Ending) → x ≡ e.OutOfMemory → Due_generated (ending_answer x)
  generated_wanting x h = (by_memory (ap ending_answer h), inl u)

  -- no code comes of the text
  pub generated_unready : (text : List ℕ) → text ≡ generated_text size → (x : Ending) → CompilesTo text (Err x)
      → Due_generated (ending_answer x)
  generated_unready text i x (inl (r, h, b)) = (
    by_rule (record { refusal = r; breaks = subst (λ y. FirstBroken y r) i b; answer = ap ending_answer h }),
    inl u,
  )
  generated_unready text i x (inr h) = generated_wanting x h

  -- a run on an input that is empty, with the limits where no option is given
  pub generated_told : (text input : List ℕ) (lim : Limits) (ran : Ran) → text ≡ generated_text size → input ≡ []
      → lim ≡ default_limits → IsRunOf text input workers lim ran → (r : Result Answer Ending)
      → ReportsGenerated size ran r → AnswersCommand f s reports (command.Gen size workers) r
  generated_told text input lim ran t h i is (Ok a) k = (
    by_generated size workers refl (record {
      ran = ran;
      is_run = subst (λ (z : List ℕ × List ℕ × Limits). IsRunOf z.0 z.1 workers z.2 ran)
          (λ j. (t j, h j, i j)) is;
      answer = k;
    }),
    inl u,
  )
  generated_told text input lim ran t h i is (Err x) k = generated_wanting x k

-- ---- words

module _ (f : Files) (s : Stream) (reports : Reports) (w : Option Command) where
  -- they ask for no command, or memory was wanting
  pub no_command_read : IsUntouched s → (x : Ending) → ReadsCommand w (Err x) → Cause f s reports w (ending_answer x)
  no_command_read u x (inl h) = by_words h.1 (ap ending_answer h.0) u
  no_command_read u x (inr h) = before_words (ap ending_answer h) u

  pub words_answered : (d : Command) → w ≡ Some d → (r : Result Answer Ending) → AnswersCommand f s reports d r
      → AnswersWords f s reports w r
  words_answered d v r h = said (CommandCause f s reports d) (Cause f s reports w) (λ a k. by_command d v k.0 k.1) r h

  -- memory was wanting for the line of an ending
  wanting : (a : Answer) → Cause f s reports w a → Cause f s reports w (answer_without_output e.OutOfMemory)
  wanting a (by_words n h u) = before_words refl u
  wanting a (before_words h u) = before_words refl u
  wanting a (by_command d v due reads) = by_command d v (by_memory refl) reads

  pub ending_answered : (x : Ending) → Cause f s reports w (ending_answer x) → (a : Answer) → AnswersEnding x a
      → Cause f s reports w a
  ending_answered x h a (inl k) = subst (Cause f s reports w) (sym k) h
  ending_answered x h a (inr k) = subst (Cause f s reports w) (sym k) (wanting (ending_answer x) h)
