-- What scanner and parser answer, as one answer about the text.
use Rattle.std.proofs.Common.{◌≡◌, ℕ, List, Result, Ok, Err, inl, inr, sym as back_of, ap, ◌∙◌, subst}
use Rattle.sp_base.specs.declared.halt.Halt.{Halt}
use Rattle.sp_base.specs.declared.halt.Halt.TheVariants as halt
use Rattle.sp_tree.specs.declared.token.Token.{Token}
use Rattle.sp_tree.specs.declared.syntax.Syntax.{Syntax}
use Rattle.sp_tree.specs.Scans.{IsTokens}
use Rattle.sp_scan.specs.Finds.{Scanned}
use Rattle.sp_parse.specs.Parses.{Parsed}
use Rattle.sp_front.specs.Texts.{ParsesTo}

scan_fails : (text : List ℕ) (e : Halt) → Scanned text (Err e) → ParsesTo text (Err e)
scan_fails text halt.Memory h = tt
scan_fails text (halt.Refused r) h = inl h

pub no_tokens : (text : List ℕ) (result : Result Syntax Halt) (e : Halt) → (y : Halt) × (result ≡ Err y) × (y ≡ e)
    → Scanned text (Err e) → ParsesTo text result
no_tokens text result e p h = let q : result ≡ Err e = p.1 ∙ ap Err p.2 in
    subst (ParsesTo text) (back_of q) (scan_fails text e h)

pub by_tokens : (text : List ℕ) (ts : List Token) → IsTokens text ts → (result : Result Syntax Halt)
    → Parsed text ts result → ParsesTo text result
by_tokens text ts h (Ok tree) x = record { tokens = ts; are_tokens = h; spells = x.spells; kept = x.kept }
by_tokens text ts h (Err halt.Memory) x = tt
by_tokens text ts h (Err (halt.Refused r)) x = inr (ts, h, x)
