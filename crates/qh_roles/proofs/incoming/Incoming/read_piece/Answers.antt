use Rattle.std.proofs.Common.{ℕ, List, Ok, sym, subst}
use Rattle.std.proofs.lemmas.Result.{err_from_is_err_and}
use Rattle.qh_roles.proofs.StepLaws.{piece_reads, end_reads, lost_reads, failed_reads}
use Rattle.qh_roles.specs.Streams.{Incoming, ReadsOn}
use Rattle.qh_roles.specs.declared.incoming.ReadState.TheVariants as reading
use Rattle.qh_roles.proofs.incoming.Incoming.read_piece.Goals as goal

pub returns-in_ok-append-in-Ok-Some-clause-reads : goal.returns-in_ok-append-in-Ok-Some-clause-reads
returns-in_ok-append-in-Ok-Some-clause-reads g c = rw (← c.self.view_is) (λ start before t f w.
    let i : Incoming = record { stream = c.self.inside.stream.0; bytes = c.self.inside.bytes.items } in
    let h = rw c.in-Ok-Some.field-0-is at c.in-Ok-Some.ensures in
    subst (λ (bytes : List ℕ). ReadsOn start before (Ok reading.Blocked) (record { stream = i.stream; bytes = bytes }) c.take_piece.new.connection t) (sym c.in_ok-append-in-Ok-Some.ensures.ok)
    (piece_reads start before i c.in-Ok-Some.chunk.offset c.in-Ok-Some.chunk.bytes c.take_piece.new.connection t (h.follows start before t f) (h.in_order start before t f) w))

pub returns-in-Ok-None-clause-reads : goal.returns-in-Ok-None-clause-reads
returns-in-Ok-None-clause-reads g c = rw (← c.self.view_is) (λ start before t f w.
    let h = rw c.in-Ok-None.field-0-is at c.in-Ok-None.ensures in
    end_reads start before (record { stream = c.self.inside.stream.0; bytes = c.self.inside.bytes.items }) c.take_piece.new.connection t (h.follows start before t f) w)

pub returns-in_err-append-in-Ok-Some-clause-memory : goal.returns-in_err-append-in-Ok-Some-clause-memory
returns-in_err-append-in-Ok-Some-clause-memory g c = rw (← c.self.view_is) (
    let h = rw c.in-Ok-Some.field-0-is at c.in-Ok-Some.ensures in
    let e = err_from_is_err_and c.from_residual.result c.from_residual.ensures.1 in
    rw e.1 h.taken.0)

pub returns-in_err-append-in-Ok-Some-clause-reads : goal.returns-in_err-append-in-Ok-Some-clause-reads
returns-in_err-append-in-Ok-Some-clause-reads g c = λ start before t f w.
    let h = rw c.in-Ok-Some.field-0-is at c.in-Ok-Some.ensures in
    let e = err_from_is_err_and c.from_residual.result c.from_residual.ensures.1 in
    rw e.1 (lost_reads start before e.0 (record { stream = c.self.inside.stream.0; bytes = c.append.new.bytes.items }) c.in-Ok-Some.chunk.offset c.in-Ok-Some.chunk.bytes c.take_piece.new.connection t
    (h.follows start before t f))

pub returns-in-Err-Read-Blocked-clause-reads : goal.returns-in-Err-Read-Blocked-clause-reads
returns-in-Err-Read-Blocked-clause-reads g c = rw (← c.self.view_is) (λ start before t f w.
    failed_reads start before _ c.in-Err-Read-Blocked.field-0 (record { stream = c.self.inside.stream.0; bytes = c.self.inside.bytes.items }) c.take_piece.new.connection t
    (c.in-Err-Read-Blocked.ensures.follows start before t f) (λ u r. r) w)

pub returns-in-Err-Read-Memory-clause-reads : goal.returns-in-Err-Read-Memory-clause-reads
returns-in-Err-Read-Memory-clause-reads g c = rw (← c.self.view_is) (λ start before t f w.
    failed_reads start before _ c.in-Err-Read-Memory.field-0 (record { stream = c.self.inside.stream.0; bytes = c.self.inside.bytes.items }) c.take_piece.new.connection t
    (c.in-Err-Read-Memory.ensures.follows start before t f) (λ u r. tt) w)

pub returns-in-Err-clause-reads : goal.returns-in-Err-clause-reads
returns-in-Err-clause-reads g c = rw (← c.self.view_is) (λ start before t f w.
    failed_reads start before _ c.in-Err.field-0 (record { stream = c.self.inside.stream.0; bytes = c.self.inside.bytes.items }) c.take_piece.new.connection t
    (c.in-Err.ensures.follows start before t f) (λ u r. tt) w)
