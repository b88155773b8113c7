-- What a turn brought is known to the handles: from each book that showed the state before items lead to one that shows it then.
use Rattle.std.proofs.Common.{◌≡◌, ℕ, Bool, true, false, List, [], ◌∷◌, ◌++◌, map, Option, None, Some, if◌then◌else◌, refl, sym, ap, subst, ◌∙◌}
use Rattle.std.proofs.lemmas.Bool.{false≢true}
use Rattle.qh_base.specs.declared.connection_error.ConnectionError.{ConnectionError}
use Rattle.qh_base.specs.declared.connection_error.ConnectionError.TheVariants as error
use Rattle.qh_book.specs.Book.{Book}
use Rattle.qh_book.specs.Items.{bring, bring_all, is_memory}
use Rattle.qh_book.specs.Pages.{EndGiven, Reading, RecvPage, RecvState, ResetGiven, Stopped, is_given, is_open as is_page_open}
use Rattle.qh_book.specs.Shown.{IsShut, Note, is_reset_given}
use Rattle.qh_book.specs.declared.item.Item.{Item}
use Rattle.qh_book.specs.declared.item.Item.TheVariants as item
use Rattle.qh_conn.specs.declared.connection.Connection.{Connection}
use Rattle.qh_control.specs.declared.items.ConnectionItem.{ConnectionItem}
use Rattle.qh_quinn.proofs.Recvs.{read_at, shut_at}
use Rattle.qh_quinn.proofs.StatesKept.{connection_beside}
use Rattle.qh_quinn.specs.Readers.{EndsBare, HoldsReader, code_of, is_end_given, note_of, reader_in}
use Rattle.qh_quinn.specs.States.{ShowsWith}
use Rattle.qh_quinn.specs.Waiting.{is_among}
use Rattle.qh_quinn.specs.declared.inner.StateInner.{StateInner}
use Rattle.qh_quinn.specs.declared.readers.Reader.{Reader}
use Rattle.qh_shown.specs.Brings.{Brings, EndsWanting}
use Rattle.qh_shown.specs.Connections.{ShowsConnection, is_wanting, spared, spared_all}
use Rattle.qh_shown.specs.Items.{brought, item_of}

-- ---- items

pub bring_behind : (xs ys : List Item) (b : Book) → bring_all (xs ++ ys) b ≡ bring_all ys (bring_all xs b)
bring_behind [] ys b = refl
bring_behind (x ∷ xs) ys b = bring_behind xs ys (bring x b)

pub lost_by : (e : ConnectionError) (b : Book) → is_memory e ≡ false → bring (item.Lost e) b ≡ record b { error = Some e }
lost_by error.Memory b calm = absurd (false≢true (sym calm))
lost_by other b calm = refl

-- ---- readers

-- the page of a half that a handle holds goes on
held_on : (w : Bool) (reader : Option Reader) (held : Bool) (note : Note) (page after : Option RecvPage) → HoldsReader w reader held note page
    → ((p : RecvPage) → page ≡ Some p → (q : RecvPage) × (after ≡ Some q) × (q.state ≡ p.state) × (q.gave_error ≡ p.gave_error) × (q.is_unordered ≡ p.is_unordered)) → HoldsReader w reader held note after
held_on w None false note page after h keeps = tt
held_on w None true note page after h keeps = absurd h
held_on w (Some r) false note page after h keeps = absurd h
held_on w (Some r) true note None after h keeps = absurd h
held_on w (Some r) true note (Some p) after h keeps =
    let k = keeps p refl in
    subst (λ (o : Option RecvPage). HoldsReader w (Some r) true note o) (sym k.1) (h.0, ap is_page_open k.2 ∙ h.1, k.4 ∙ h.2, λ e. h.3 (sym (ap is_end_given k.2) ∙ e))

emptied_is : {S : Type 0} (told : Bool) (c : Connection S) (notes : ℕ → Note) (b : Book) → ShowsConnection told c notes b → b.is_emptied ≡ is_wanting c
emptied_is told c notes b h = at (is_wanting c) refl
  where
    at : (w : Bool) → is_wanting c ≡ w → b.is_emptied ≡ is_wanting c
    at true is = (h.emptied is).emptied ∙ sym is
    at false is = (h.live is).kept ∙ sym is

-- ---- what want of memory leaves of what is kept of a half

untold_code : (r : Reader) → r.is_told ≡ false → code_of true r ≡ None
untold_code r untold = rw untold refl

told_code : (r : Reader) → r.is_told ≡ true → code_of true r ≡ r.code
told_code r told = rw told refl

abbrev with_code : Reader → Option ℕ → Note
with_code r code = record { code = code; is_told = r.is_told; gave_error = r.gave_error }

spared_note : (note : Note) (p q : RecvPage) (r : Reader) → note ≡ note_of false r → EndsBare r p → (is_page_open p.state ≡ true → note.is_told ≡ false) → (is_page_open p.state ≡ false → IsShut note p) → q.state ≡ p.state → spared note (Some q) ≡ note_of true r
spared_note note p q r noted bare reading shut same = rw same (at p.state refl)
  where
    told_is : note.is_told ≡ r.is_told
    told_is = ap (λ (n : Note). n.is_told) noted

    at : (st : RecvState) → p.state ≡ st → (if is_given st then note else record note { code = None }) ≡ note_of true r
    at Reading is = ap (λ (n : Note). record n { code = None }) noted ∙ ap (with_code r) (sym (untold_code r (sym told_is ∙ reading (ap is_page_open is))))
    at Stopped is = ap (λ (n : Note). record n { code = None }) noted ∙ ap (with_code r) (sym (untold_code r (sym told_is ∙ (sym (shut (ap is_page_open is)).told ∙ ap is_reset_given is))))
    at EndGiven is = noted ∙ ap (with_code r) (bare (ap is_end_given is) ∙ sym (untold_code r (sym told_is ∙ (sym (shut (ap is_page_open is)).told ∙ ap is_reset_given is))))
    at ResetGiven is = noted ∙ ap (with_code r) (sym (told_code r (sym told_is ∙ (sym (shut (ap is_page_open is)).told ∙ ap is_reset_given is))))

-- the page of a half that a handle holds, of which what waited goes
held_lost : (reader : Option Reader) (held : Bool) (note : Note) (page mid after : Option RecvPage) → HoldsReader false reader held note page
    → ((p : RecvPage) → page ≡ Some p → is_page_open p.state ≡ true → note.is_told ≡ false) → ((p : RecvPage) → page ≡ Some p → is_page_open p.state ≡ false → IsShut note p)
    → ((p : RecvPage) → page ≡ Some p → (q : RecvPage) × (mid ≡ Some q) × (q.state ≡ p.state) × (q.gave_error ≡ p.gave_error) × (q.is_unordered ≡ p.is_unordered))
    → ((p : RecvPage) → page ≡ Some p → (q : RecvPage) × (after ≡ Some q) × (q.state ≡ p.state) × (q.gave_error ≡ p.gave_error) × (q.is_unordered ≡ p.is_unordered)) → HoldsReader true reader held (spared note mid) after
held_lost None false note page mid after h reading shut before keeps = tt
held_lost None true note page mid after h reading shut before keeps = absurd h
held_lost (Some r) false note page mid after h reading shut before keeps = absurd h
held_lost (Some r) true note None mid after h reading shut before keeps = absurd h
held_lost (Some r) true note (Some p) mid after h reading shut before keeps =
    let m = before p refl in
    let k = keeps p refl in
    rw (m.1, k.1) (spared_note note p m.0 r h.0 h.3 (reading p refl) (shut p refl) m.2, ap is_page_open k.2 ∙ h.1, k.4 ∙ h.2, λ e. h.3 (sym (ap is_end_given k.2) ∙ e))

module _ {S : Type 0} where
  -- want of memory ended the connection before exactly if it has now
  pub wanting_kept : (items : List ConnectionItem) (old new : Connection S) (told : Bool) (notes : ℕ → Note) (b : Book) → Brings items old new → ShowsConnection told old notes b → is_wanting new ≡ is_wanting old
  wanting_kept items old new told notes b brings h =
      sym (emptied_is told new notes (brought items b) (brings.shows told notes b h)) ∙ ((brings.keeps told notes b h).is_emptied ∙ emptied_is told old notes b h)

  -- beside its connection a state is the same, but for what it keeps of the error
  pub record IsBeside (old new : StateInner S) : Type 0 where
    pub readers : new.readers ≡ old.readers
    pub stable_id : new.stable_id ≡ old.stable_id
    pub handles : new.handles ≡ old.handles
    pub interests : (i : _) → is_among i new.waiting.items ≡ is_among i old.waiting.items

  -- the book with the items, and with the error that is kept then
  lives : (items : List ConnectionItem) (old new : StateInner S) (mid : Connection S) (notes : ℕ → Note) (b : Book) → IsBeside old new → Brings items old.connection mid → ShowsWith notes old b
      → ((b : Book) → ShowsConnection old.is_connected mid notes b → ShowsConnection new.is_connected new.connection notes b) → is_wanting new.connection ≡ is_wanting mid
      → ShowsWith notes new (record (brought items b) { error = new.error })
  lives items old new mid notes b beside brings h told same =
      let keeps = brings.keeps old.is_connected notes b h.connection in
      let c = brought items b in
      record {
        connection = connection_beside new.is_connected new.connection notes c (told c (brings.shows old.is_connected notes b h.connection));
        readers = λ k.
            subst (λ (w : Bool). HoldsReader w (reader_in new.readers k) (c.readers k) (notes k) (c.recvs k)) (sym (same ∙ wanting_kept items old.connection mid old.is_connected notes b brings h.connection))
            (rw (beside.readers, keeps.readers) (held_on (is_wanting old.connection) (reader_in old.readers k) (b.readers k) (notes k) (b.recvs k) (c.recvs k) (h.readers k) (keeps.page k)));
        untouched = let u = keeps.untouched h.untouched in record { unheld = u.unheld; page = u.page };
        stable_id = keeps.stable_id ∙ h.stable_id ∙ sym beside.stable_id;
        error = refl;
        handles = keeps.handles ∙ h.handles ∙ sym beside.handles;
        interests = λ i. ap (λ (f : _). f i) keeps.interests ∙ h.interests i ∙ sym (beside.interests i);
      }

  -- the error stays as it was
  pub lives_on : (items : List ConnectionItem) (old new : StateInner S) (mid : Connection S) (notes : ℕ → Note) (b : Book) → IsBeside old new → Brings items old.connection mid → ShowsWith notes old b
      → ((b : Book) → ShowsConnection old.is_connected mid notes b → ShowsConnection new.is_connected new.connection notes b) → is_wanting new.connection ≡ is_wanting mid → new.error ≡ old.error
      → ShowsWith notes new (bring_all (map item_of items) b)
  lives_on items old new mid notes b beside brings h told same kept =
      let c = brought items b in
      let e : new.error ≡ c.error = kept ∙ (sym h.error ∙ sym (brings.keeps old.is_connected notes b h.connection).error) in
      subst (λ (z : Option ConnectionError). ShowsWith notes new (record c { error = z })) e (lives items old new mid notes b beside brings h told same)

  -- an error is kept from then on
  pub lives_lost : (items : List ConnectionItem) (old new : StateInner S) (mid : Connection S) (notes : ℕ → Note) (b : Book) (e : ConnectionError) → IsBeside old new → Brings items old.connection mid → ShowsWith notes old b
      → ((b : Book) → ShowsConnection old.is_connected mid notes b → ShowsConnection new.is_connected new.connection notes b) → is_wanting new.connection ≡ is_wanting mid → new.error ≡ Some e → is_memory e ≡ false
      → ShowsWith notes new (bring_all (map item_of items ++ item.Lost e ∷ []) b)
  lives_lost items old new mid notes b e beside brings h told same kept calm =
      let c = brought items b in
      subst (λ (z : Book). ShowsWith notes new z) (sym (bring_behind (map item_of items) (item.Lost e ∷ []) b ∙ lost_by e c calm))
      (subst (λ (z : Option ConnectionError). ShowsWith notes new (record c { error = z })) kept (lives items old new mid notes b beside brings h told same))

  -- want of memory ended the connection
  pub lives_wanting : (old new : StateInner S) (mid : Connection S) (notes : ℕ → Note) (b : Book) (e : EndsWanting old.connection mid) → IsBeside old new → ShowsWith notes old b → is_wanting old.connection ≡ false
      → ((notes : ℕ → Note) (b : Book) → ShowsConnection old.is_connected mid notes b → ShowsConnection new.is_connected new.connection notes b) → is_wanting new.connection ≡ true → new.error ≡ Some error.Memory
      → ShowsWith (spared_all notes (brought e.items b)) new (bring_all (map item_of e.items ++ item.Lost error.Memory ∷ []) b)
  lives_wanting old new mid notes b e beside h calm told wanting kept =
      let before = e.before old.is_connected notes b h.connection in
      let keeps = e.keeps old.is_connected notes b h.connection in
      let c = brought e.items b in
      let d = bring (item.Lost error.Memory) c in
      subst (λ (z : Book). ShowsWith (spared_all notes c) new z) (sym (bring_behind (map item_of e.items) (item.Lost error.Memory ∷ []) b))
      (record {
        connection = told (spared_all notes c) d (e.shows old.is_connected notes b h.connection);
        readers = λ k.
            subst (λ (w : Bool). HoldsReader w (reader_in new.readers k) (d.readers k) (spared (notes k) (c.recvs k)) (d.recvs k)) (sym wanting)
            (rw (beside.readers, keeps.readers)
            (held_lost (reader_in old.readers k) (b.readers k) (notes k) (b.recvs k) (c.recvs k) (d.recvs k)
            (subst (λ (w : Bool). HoldsReader w (reader_in old.readers k) (b.readers k) (notes k) (b.recvs k)) calm (h.readers k))
            (λ p is opened. (read_at notes old.connection.core.space.streams b k p (h.connection.live calm).streams is opened).noted.untold)
            (λ p is shut. shut_at notes old b k p h is shut) (before.page k) (keeps.page k)));
        untouched = keeps.untouched h.untouched;
        stable_id = keeps.stable_id ∙ h.stable_id ∙ sym beside.stable_id;
        error = keeps.error ∙ sym kept;
        handles = keeps.handles ∙ h.handles ∙ sym beside.handles;
        interests = λ i. ap (λ (f : _). f i) keeps.interests ∙ h.interests i ∙ sym (beside.interests i);
      })
