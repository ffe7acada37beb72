-- None of this belongs to what the program promises: it is for contracts between crates.
-- What an offer on a channel is answered, and what is pending after it: the contract of `offer`. A table by what is
-- pending, as the language's rules of communication give it.
use Rattle.std.specs.Prelude.{ℕ, Bool, true, false, ◌==◌, if◌then◌else◌, Option, None, Some}
use Rattle.sp_channel.specs.declared.channels.Offer.{Offer}
use Rattle.sp_channel.specs.declared.channels.Offer.TheVariants.{Waits, Meets, Contends, TypeDiffers}
use Rattle.sp_channel.specs.declared.channels.Pending.{Pending}
use Rattle.sp_journal.specs.declared.entry.Way.{Way}
use Rattle.sp_journal.specs.declared.entry.Way.TheVariants.{Send, Receive}

-- both offer in the same direction
abbrev pub same_way : Way → Way → Bool
same_way Send Send = true
same_way Receive Receive = true
same_way Send Receive = false
same_way Receive Send = false

-- the table of offers: what an offer of this way and message type is answered, by what is pending
abbrev pub answer : Option Pending → Way → ℕ → Offer
answer None way message = Waits
answer (Some q) way message = if same_way q.way way then Contends q.process else
    (if q.message == message then Meets q.process else TypeDiffers q.process)

-- what is pending after it: an offer that waits is pending, one that meets leaves nothing pending, and any other
-- changes nothing
abbrev pub pending_after : Option Pending → Way → ℕ → ℕ → Option Pending
pending_after None way process message = Some (record { way = way; process = process; message = message })
pending_after (Some q) way process message = if same_way q.way way then Some q else
    (if q.message == message then None else Some q)
