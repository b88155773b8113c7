-- Short histories are legal.
use Rattle.std.proofs.Common.{true, ◌++◌, refl, inl, inr, arith}
use Rattle.qh_base.specs.declared.path.FourTuple.{FourTuple}
use Rattle.qh_book.proofs.Runs.{run_is_piece}
use Rattle.qh_book.specs.History.{IsLegal}
use Rattle.qh_book.specs.Rows.{row_book, row_opens, row_reads, row_resets, row_unknown}

abbrev pub row_legal : (T : Type 0) (a : FourTuple) → IsLegal {T = T} (row_book a) (row_opens ++ row_reads)
row_legal T a = record {
  last = _;
  replays = (
    _,
    (refl, record { made = _; allows = (refl, refl); is_after = refl }),
    (
      _,
      refl,
      (
        _,
        (refl, record { made = _; allows = (refl, refl); is_after = refl }),
        (
          _,
          (refl, record { made = _; allows = (refl, omega arith, refl, refl); is_after = refl }),
          (
            _,
            (refl, record { made = _; allows = (refl, refl); is_after = refl }),
            (
              _,
              (refl, record { made = _; allows = (_, refl, refl, refl, omega arith, refl, refl); is_after = refl }),
              (
                _,
                (refl, record { made = _; allows = (refl, refl); is_after = refl }),
                (
                  _,
                  refl,
                  (
                    _,
                    (refl, record { made = _; allows = (_, refl, refl, refl, omega arith, refl, refl); is_after = refl }),
                    (
                      _,
                      (refl, record { made = _; allows = inr (record { page = _; is_page = refl; left = _; reads = inr (refl, omega arith, refl, run_is_piece _ 0 1 2 true refl (omega arith) (λ _. (refl, refl)), refl); after = refl }); is_after = refl }),
                      (
                        _,
                        (refl, record { made = _; allows = inr (record { page = _; is_page = refl; left = _; reads = inr (refl, omega arith, refl, run_is_piece _ 2 1 2 true refl (omega arith) (λ _. (refl, refl)), refl); after = refl }); is_after = refl }),
                        (
                          _,
                          (refl, record { made = _; allows = inr (record { page = _; is_page = refl; left = _; reads = (refl, omega arith, refl, refl, refl, refl); after = refl }); is_after = refl }),
                          (
                            _,
                            (refl, record { made = _; allows = inl (refl, (omega arith, refl), refl); is_after = refl }),
                            (
                              _,
                              (refl, record { made = _; allows = (refl, refl, refl); is_after = refl }),
                              (
                                _,
                                (refl, record { made = _; allows = (refl, refl); is_after = refl }),
                                (
                                  _,
                                  (refl, record { made = _; allows = refl; is_after = refl }),
                                  (
                                    _,
                                    (refl, record { made = _; allows = refl; is_after = refl }),
                                    (
                                      _,
                                      (refl, record { made = _; allows = (refl, refl); is_after = refl }),
                                      (
                                        _,
                                        (refl, record { made = _; allows = refl; is_after = refl }),
                                        (
                                          _,
                                          (refl, record { made = _; allows = (refl, refl); is_after = refl }),
                                          refl,
                                        ),
                                      ),
                                    ),
                                  ),
                                ),
                              ),
                            ),
                          ),
                        ),
                      ),
                    ),
                  ),
                ),
              ),
            ),
          ),
        ),
      ),
    ),
  );
}

abbrev pub resets_legal : (T : Type 0) (a : FourTuple) → IsLegal {T = T} (row_book a) row_resets
resets_legal T a = record {
  last = _;
  replays = (
    _,
    refl,
    (
      _,
      (refl, record { made = _; allows = (refl, omega arith, refl, refl); is_after = refl }),
      (
        _,
        refl,
        (
          _,
          (refl, record { made = _; allows = (_, refl, refl); is_after = refl }),
          (
            _,
            (refl, record { made = _; allows = (_, refl, refl, refl); is_after = refl }),
            (
              _,
              refl,
              (
                _,
                (refl, record { made = _; allows = (_, refl, refl, refl); is_after = refl }),
                (
                  _,
                  (refl, record { made = _; allows = inl (refl, (omega arith, refl), refl); is_after = refl }),
                  refl,
                ),
              ),
            ),
          ),
        ),
      ),
    ),
  );
}

abbrev pub unknown_legal : (T : Type 0) (a : FourTuple) → IsLegal {T = T} (row_book a) row_unknown
unknown_legal T a = record {
  last = _;
  replays = (
    _,
    (refl, record { made = _; allows = (refl, refl); is_after = refl }),
    (
      _,
      (refl, record { made = _; allows = (refl, refl); is_after = refl }),
      (
        _,
        refl,
        (
          _,
          (refl, record { made = _; allows = (refl, refl); is_after = refl }),
          (
            _,
            (refl, record { made = _; allows = (refl, refl); is_after = refl }),
            refl,
          ),
        ),
      ),
    ),
  );
}
