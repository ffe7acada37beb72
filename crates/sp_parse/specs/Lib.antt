-- What the parser promises. Its one public function promises what Parses says, in the words of the grammar alone; the
-- others are for the contracts of the functions inside, each of which names the production that it reads.
pub mod Productions
pub mod Reads
pub mod Trees
pub mod Operators
pub mod Parses
pub mod BlockProductions
pub mod ExpressionProductions
pub mod StatementProductions
