-- What is handed on of one read of standard input.
use Rattle.std.specs.Prelude.{ℕ, List, Option}
use Rattle.std.specs.Io.KnownBytes.{Consumes, Keeps}
use Rattle.confer_node.specs.declared.input.Piece.{Piece}
use Rattle.confer_node.specs.declared.input.Piece.TheVariants as pieces

-- the bytes that were read, or a fault, with which nothing was
abbrev pub IsPieceOf : Option (List ℕ) → Option (List ℕ) → Piece → Type 0
IsPieceOf had has (pieces.Bytes bytes) = Consumes had has bytes.items
IsPieceOf had has (pieces.Failed fault) = Keeps had has
