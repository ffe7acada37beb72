pub mod Relation
pub mod Journal
mod SourceTurns
mod TurnsEnd
mod TurnsKeep
mod ParallelOrBelow
mod OthersStay
mod AfterEntry
mod TurnsMeet
mod MachineStops
mod OneChanges
pub mod Pauses
mod KernelSteps
mod Rejoins
mod Newborns
mod Forks
mod DeclaredUses
mod Splits
mod Parallels
mod Foralls
mod Opens
mod FirstRelation
pub mod JournalEntries
mod AtStop
mod Ends
mod Halts
mod ChildrenStand
mod EachStands
mod TurnsSafe
pub mod OneState
pub mod Replay
mod Messages
mod Fronts
mod Outputs
pub mod Theorem
pub mod Programs
mod NewRights
mod MoreChannels
mod WhoRuns
mod AtOffer
mod OffersWait
mod OffersMeet
mod Offers
mod BoundedRanks
mod StraightCode
mod Ranks
mod Formals
mod SafeSteps
pub mod Soundness
pub mod FaultEntries
mod Waiters
pub mod Endings
pub mod Histories
mod NameOrder
mod Contention
pub mod SortedWaiters
