use Rattle.std.proofs.Common.{◌≡◌, ◌≤◌, List, [], ◌++◌, length, refl, sym, ◌∙◌, subst, arith}
use Rattle.std.proofs.lemmas.Bool.{eqb-true}
use Rattle.qh_buffers.specs.declared.assembler.Chunk.{Chunk}
use Rattle.qh_buffers.specs.Assembler.{pieces, end_behind, IsAmong}
use Rattle.qh_buffers.proofs.ChunkMerge.{behind_among, none_among}
use Rattle.qh_buffers.proofs.QueuedChunks.{is_some_length, no_entries, queued_more, only_queue, all_in_order}
use Rattle.qh_buffers.proofs.assembler.chunks.Chunks.insert.Goals as goal

pub returns-then-is_empty-clause-ok : goal.returns-then-is_empty-clause-ok
returns-then-is_empty-clause-ok c =
    let queue = c.self.inside.queue.items in
    let es = c.self.inside.map.entries in
    let new = c.args.new in
    let empty : length new.bytes ≡ 0 = eqb-true (length new.bytes) 0 (sym c.is_empty.ensures ∙ c.if-is_empty.true) in
    rw (← c.self.view_is) (none_among c.args.given.now (queue ++ pieces es) new (all_in_order queue es c.self.invariant) c.requires empty)

pub invariant_of-self-then-is_behind : goal.invariant_of-self-then-is_behind
invariant_of-self-then-is_behind c =
    let queue = c.self.inside.queue.items in
    let es = c.self.inside.map.entries in
    let none : es ≡ [] = no_entries es (c.if-is_empty-2.ensures.0 refl) in
    let yes = c.if-is_behind.true in
    let some = is_some_length (length c.args.new.bytes) (sym c.is_empty.ensures ∙ c.if-is_empty.false) in
    let behind : end_behind 0 queue ≤ c.args.new.offset = omega (arith, c.end_of_all-end.ensures, c.is_behind.ensures.end yes) in
    rw c.in_ok-push_back.ensures.items (queued_more queue es c.args.new c.self.invariant none some c.requires behind)

pub returns-then-is_behind-clause-ok : goal.returns-then-is_behind-clause-ok
returns-then-is_behind-clause-ok c =
    let queue = c.self.inside.queue.items in
    let es = c.self.inside.map.entries in
    let none : es ≡ [] = no_entries es (c.if-is_empty-2.ensures.0 refl) in
    let yes = c.if-is_behind.true in
    let some = is_some_length (length c.args.new.bytes) (sym c.is_empty.ensures ∙ c.if-is_empty.false) in
    let behind : end_behind 0 queue ≤ c.args.new.offset = omega (arith, c.end_of_all-end.ensures, c.is_behind.ensures.end yes) in
    let queue' = c.push_back.new.self.items in
    let given = c.args.given.now in
    let new = c.args.new in
    let among = behind_among given queue new c.self.invariant.in_order some c.requires (c.is_behind.ensures.given yes) behind in
    rw (← c.self.view_is)
    (subst (λ (l : List Chunk). IsAmong given l new (queue' ++ pieces es)) (sym (only_queue queue es none))
    (subst (λ (l : List Chunk). IsAmong given queue new l) (sym (only_queue queue' es none ∙ c.in_ok-push_back.ensures.items)) among))
