-- What scanner, parser and layout answer, as one answer about the text.
use Rattle.std.proofs.Common.{◌≡◌, ℕ, List, Result, Ok, Err, inl, inr, sym as back_of, ap, ◌∙◌, subst}
use Rattle.std.specs.declared.vec.Vec.{Vec}
use Rattle.std.specs.declared.alloc.Global.{Global}
use Rattle.sp_base.specs.declared.halt.Halt.{Halt}
use Rattle.sp_base.specs.declared.halt.Halt.TheVariants as halt
use Rattle.sp_tree.specs.declared.token.Token.{Token}
use Rattle.sp_tree.specs.declared.syntax.Syntax.{Syntax}
use Rattle.sp_tree.specs.SyntaxOf.{program_of}
use Rattle.sp_tree.specs.Scans.{IsTokens}
use Rattle.sp_scan.specs.Finds.{Scanned}
use Rattle.sp_parse.specs.Parses.{Parsed}
use Rattle.sp_format.specs.Formats.{Lays, Formats, HasTree}

scan_fails : (text : List ℕ) (e : Halt) → Scanned text (Err e) → Formats text (Err e)
scan_fails text halt.Memory h = tt
scan_fails text (halt.Refused r) h = inl (inl h)

pub no_tokens : (text : List ℕ) (result : Result (Vec ℕ Global) Halt) (e : Halt) → (y : Halt) × (result ≡ Err y)
    × (y ≡ e) → Scanned text (Err e) → Formats text result
no_tokens text result e p h = let q : result ≡ Err e = p.1 ∙ ap Err p.2 in
    subst (Formats text) (back_of q) (scan_fails text e h)

parse_fails : (text : List ℕ) (ts : List Token) → IsTokens text ts → (e : Halt) → Parsed text ts (Err e)
    → Formats text (Err e)
parse_fails text ts h halt.Memory x = tt
parse_fails text ts h (halt.Refused r) x = inl (inr (ts, h, x))

pub no_tree : (text : List ℕ) (ts items : List Token) → items ≡ ts → IsTokens text ts
    → (result : Result (Vec ℕ Global) Halt) (e : Halt) → (y : Halt) × (result ≡ Err y) × (y ≡ e)
    → Parsed text items (Err e) → Formats text result
no_tree text ts items same h result e p x = let q : result ≡ Err e = p.1 ∙ ap Err p.2 in
    subst (Formats text) (back_of q) (parse_fails text ts h e (subst (λ us. Parsed text us (Err e)) same x))

tree_by : (text : List ℕ) (ts : List Token) → IsTokens text ts → (tree : Syntax) → Parsed text ts (Ok tree)
    → HasTree text
tree_by text ts h tree x = (program_of tree, record { tokens = ts; are_tokens = h; spells = x.spells; kept = x.kept })

pub tree_of : (text : List ℕ) (ts items : List Token) → items ≡ ts → IsTokens text ts → (tree : Syntax)
    → Parsed text items (Ok tree) → HasTree text
tree_of text ts items same h tree x = tree_by text ts h tree (subst (λ us. Parsed text us (Ok tree)) same x)

pub by_layout : (text : List ℕ) → HasTree text → (result : Result (Vec ℕ Global) Halt) → Lays text result
    → Formats text result
by_layout text h (Ok out) x = (h, x)
by_layout text h (Err halt.Memory) x = tt
by_layout text h (Err (halt.Refused r)) x = inr (h, x)
