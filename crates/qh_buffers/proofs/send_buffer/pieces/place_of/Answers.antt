use Rattle.std.proofs.Common.{rules, nat_le}
use Rattle.std.proofs.lemmas.Bool.{leb-true, leb-false}
use Rattle.std.proofs.lemmas.List.Sorted.{IsPartitionPoint-from_clause, IsPartitionedBy-leb}
use Rattle.qh_buffers.specs.declared.send_buffer.Piece.{Piece}
use Rattle.qh_buffers.specs.SendState.{piece_end}
use Rattle.qh_buffers.proofs.send_buffer.pieces.place_of.Goals as goal

pub returns-clause-before : goal.returns-clause-before
returns-clause-before c =
    let xs = c.args.pieces.now.items in
    let found = IsPartitionPoint-from_clause (λ (p : Piece). nat_le (piece_end p) c.args.offset) xs c.partition_point.result c.partition_point.ensures.partitioned (IsPartitionedBy-leb piece_end xs c.args.offset c.requires) (λ a r f' k. search rules) in
    λ k d low high. leb-true _ _ (found.0 k d low high)

pub returns-clause-behind : goal.returns-clause-behind
returns-clause-behind c =
    let xs = c.args.pieces.now.items in
    let found = IsPartitionPoint-from_clause (λ (p : Piece). nat_le (piece_end p) c.args.offset) xs c.partition_point.result c.partition_point.ensures.partitioned (IsPartitionedBy-leb piece_end xs c.args.offset c.requires) (λ a r f' k. search rules) in
    λ k d low high. leb-false _ _ (found.1 k d low high)
