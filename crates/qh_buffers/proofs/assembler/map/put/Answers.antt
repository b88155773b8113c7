use Rattle.std.proofs.Common.{ℕ, List, nat_cmp, sym, ap, ◌∙◌, subst, arith}
use Rattle.std.specs.BTreeMap.{insert_entry}
use Rattle.qh_buffers.proofs.StoredPieces.{IsPut, is_put, stored_order}
use Rattle.qh_buffers.proofs.assembler.map.put.Goals as goal

pub returns-clause-stored : goal.returns-clause-stored
returns-clause-stored c =
    let old = c.args.chunks.now.entries in
    let p = c.args.piece in
    let is = c.in_ok-insert.ensures.entries ∙ ap (λ (k : ℕ). insert_entry nat_cmp old k p.bytes) c.end.ensures in
    (subst (λ (l : List (ℕ × List ℕ)). IsPut 0 old l p) (sym is) (is_put old 0 p (omega arith) c.requires.some c.requires.fits c.requires.stored c.requires.exclusive)).stored

pub returns-clause-ok : goal.returns-clause-ok
returns-clause-ok c =
    let old = c.args.chunks.now.entries in
    let p = c.args.piece in
    let is = c.in_ok-insert.ensures.entries ∙ ap (λ (k : ℕ). insert_entry nat_cmp old k p.bytes) c.end.ensures in
    let put = subst (λ (l : List (ℕ × List ℕ)). IsPut 0 old l p) (sym is) (is_put old 0 p (omega arith) c.requires.some c.requires.fits c.requires.stored c.requires.exclusive) in
    record { in_order = stored_order c.insert.new.self.entries 0 put.stored; bytes_are = put.bytes_are }
