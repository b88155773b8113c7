use Rattle.std.proofs.Common.{◌≡◌, ℕ, ◌+◌, ◌<◌, ◌++◌, List, length, get_or, take, drop, nat_cmp, refl, sym, ap, ◌∙◌, subst, arith}
use Rattle.std.specs.BTreeMap.{get, is_at}
use Rattle.std.specs.Map.{lookup}
use Rattle.std.specs.declared.ops.Range.{Range}
use Rattle.std.proofs.lemmas.Cmp.{nat_cmp_total}
use Rattle.std.proofs.lemmas.List.{at_drop_more}
use Rattle.std.proofs.lemmas.Map.Lookups.{btree_map_from_get, exact_unsigned}
use Rattle.qh_buffers.specs.declared.assembler.Chunk.{Chunk}
use Rattle.qh_buffers.specs.Assembler.{pieces, part, parts_of, end_of, is_end}
use Rattle.qh_buffers.proofs.ChunkLaws.{order_lower}
use Rattle.qh_buffers.proofs.ChunkMerge.{AreMergedTo, merged_more}
use Rattle.qh_buffers.proofs.StoredPieces.{stored_order, stored_sorted, parts_in_order, gaps_at, fresh_end, first_ends, still_other, was_ok, was_err, put_back}
use Rattle.qh_buffers.proofs.assembler.map.fill.Goals as goal

pub loop-index-init : goal.loop-index-init
loop-index-init c =
    let es = c.args.chunks.now.entries in
    let new = c.args.new.now in
    record {
      stored = c.requires.stored;
      ordered = stored_sorted es 0 c.requires.stored;
      merged = record {
        in_order = stored_order es 0 c.requires.stored;
        rest_in_order = order_lower (parts_of new c.args.gaps.now) 0 new.offset (omega arith) (parts_in_order new c.requires.fits c.args.gaps.now new.offset (omega arith) c.requires.gaps);
        exclusive = c.requires.exclusive;
        bytes_are = λ k. refl;
      };
      others = λ k h. refl;
    }

pub put_part-requires-clause-low : goal.put_part-requires-clause-low
put_part-requires-clause-low c =
    (gaps_at c.args.gaps.now c.args.new.now.offset (end_of c.args.new.now) c.loop-index.index (record { start = 0; end = 0 }) c.requires.gaps (omega arith)).0

pub put_part-requires-clause-some : goal.put_part-requires-clause-some
put_part-requires-clause-some c =
    (gaps_at c.args.gaps.now c.args.new.now.offset (end_of c.args.new.now) c.loop-index.index (record { start = 0; end = 0 }) c.requires.gaps (omega arith)).1

pub put_part-requires-clause-high : goal.put_part-requires-clause-high
put_part-requires-clause-high c =
    (gaps_at c.args.gaps.now c.args.new.now.offset (end_of c.args.new.now) c.loop-index.index (record { start = 0; end = 0 }) c.requires.gaps (omega arith)).2

pub returns-then-is_err-clause-err : goal.returns-then-is_err-clause-err
returns-then-is_err-clause-err c =
    let old = c.args.chunks.now in
    let new = c.args.new.now in
    let gaps = c.args.gaps.now in
    let i = c.loop-index.index in
    let cur = c.loop-index.chunks in
    let failed = c.put_part.new.chunks in
    let same : failed.entries ≡ cur.entries = was_err c.put_part.result (sym c.is_err.ensures.value ∙ c.if-is_err.true) c.put_part.ensures.err in
    btree_map_from_get nat_cmp_total c.withdraw.new.chunks old c.withdraw.ensures.ordered (stored_sorted old.entries 0 c.requires.stored)
    (λ q. put_back (is_end (take i gaps) q) (get nat_cmp c.withdraw.new.chunks q) (get nat_cmp failed q) (get nat_cmp cur q) (get nat_cmp old q)
    (c.withdraw.ensures.pieces q)
    (ap (λ (l : List (ℕ × List ℕ)). lookup (is_at (nat_cmp q)) l) same)
    (c.loop-index.invariant.others q)
    (λ ends. fresh_end new c.requires.fits old.entries gaps q c.requires.stored c.requires.gaps c.requires.exclusive (first_ends gaps i q ends)))
    exact_unsigned

pub loop-index-preserved : goal.loop-index-preserved
loop-index-preserved c =
    let old = pieces c.args.chunks.now.entries in
    let new = c.args.new.now in
    let gaps = c.args.gaps.now in
    let i = c.loop-index.index in
    let d : Range ℕ = record { start = 0; end = 0 } in
    let gap = get_or gaps i d in
    let within : i < length gaps = omega arith in
    let cur = pieces c.loop-index.chunks.entries in
    let first : List Chunk = part gap.start gap.end new in
    let rest : List Chunk = parts_of new (drop (i + 1) gaps) in
    let parts = parts_of new gaps in
    let split : parts_of new (drop i gaps) ≡ first ++ rest = at_drop_more (parts_of new) gaps i d within in
    let so_far : AreMergedTo old parts cur (first ++ rest) = subst (λ (l : List Chunk). AreMergedTo old parts cur l) split c.loop-index.invariant.merged in
    let ok = sym c.is_err.ensures.value ∙ c.if-is_err.false in
    record {
      stored = was_ok c.put_part.result ok c.put_part.ensures.stored;
      ordered = c.put_part.ensures.ordered;
      merged = merged_more old parts cur first rest so_far (pieces c.put_part.new.chunks.entries) (was_ok c.put_part.result ok c.put_part.ensures.ok);
      others = λ k h.
          let both = still_other gaps i k gap.end d within refl h in
          was_ok c.put_part.result ok c.put_part.ensures.others k both.1 ∙ c.loop-index.invariant.others k both.0;
    }
