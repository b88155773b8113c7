-- Each step keeps the turns.
use Rattle.std.proofs.Common.{◌≡◌, ◌≢◌, ◌⊎◌, ℕ, zero, suc, ◌+◌, ◌/◌, ◌<◌, ◌≤◌, ◌^◌, eqb, List, [], ◌∷◌, ◌++◌, length, drop, get_or, set, Bool, true, false, true≢false, Option, Some, None, refl, sym, ap, ◌∙◌, subst, inl, inr, ⊎_elim, append_assoc, arith, length-append}
use Rattle.std.proofs.lemmas.List.{set-get_or}
use mathlib.Core.Option.{none, some, some-ne-none, some-injective}
use mathlib.Core.Logic.{dite}
use native.Mathlib.Decide.{ℕ_discrete, dec_lt}
use lib.ListN.{get_elem?}
use prog.Atomic.{either}
use Rattle.atomic_table.specs.Table.{State, Me, step, keeps, takes, gives, stepped, Allows, Splits, Joins, opening, Final, Seen}
use Rattle.atomic_table.proofs.Lists.{at_set, at_snoc, at_longer, set_else, set_again, exchanged}
use Rattle.qh_lock.specs.declared.view.View.{View}
use Rattle.qh_lock.specs.Places.{total, times, once_below, places, StartsWith, longer}
use Rattle.qh_lock.specs.Turns.{opened, waiting, entered, left_with, kept_half, given_half, both, settled, compared, spent, tickets, count_ticket, Each, Apart, drawn, AtHome, Away, looked, published}
use Rattle.qh_lock.proofs.Cores.{Fits, Core}
use Rattle.qh_lock.proofs.Counts.{total_set, total_snoc, total_sole, below_yes, below_pos, times_append, times_places, drop_front, total_part, below_no, starts_length, starts_self, starts_whole, longer_starts, longer_length, shorter_starts, shorter_length, starts_shorter}

off : false ≡ true → ⊥
off e = true≢false (sym e)

some_off : (t : ℕ) → ◌≡◌ {A = Option ℕ} None (Some t) → ⊥
some_off t e = cc

same_number : (s t : ℕ) → Some s ≡ Some t → s ≡ t
same_number s t e = cc

module _ {E : Type 0} where
  each_set : (P : View E → Type 0) (views : List (View E)) (id : ℕ) (w : View E) → ((j : ℕ) (u : View E) → j ≢ id → get_elem? views j ≡ some u → P u) → P w → Each P (set views id w)
  each_set P views id w others mine j u e =
      ⊎_elim (λ (x : (j ≡ id) × (w ≡ u)). subst P x.1 mine) (λ (x : (j ≢ id) × (get_elem? views j ≡ some u)). others j u x.0 x.1) (at_set views id j w u e)

  each_snoc : (P : View E → Type 0) (views : List (View E)) (w : View E) → Each P views → P w → Each P (views ++ w ∷ [])
  each_snoc P views w all mine j u e = ⊎_elim (all j u) (λ (x : w ≡ u). subst P x mine) (at_snoc views w u j e)

  each_one : (P : View E → Type 0) (w : View E) → P w → Each P (w ∷ [])
  each_one P w p zero u e = subst P (some-injective w u e) p
  each_one P w p (suc j) u e = absurd (some-ne-none u (sym e))

  set_at : (views : List (View E)) (id : ℕ) (v w : View E) → get_elem? views id ≡ some v → get_elem? (set views id w) id ≡ some w
  set_at [] id v w e = absurd (some-ne-none v (sym e))
  set_at (x ∷ xs) zero v w e = refl
  set_at (x ∷ xs) (suc i) v w e = set_at xs i v w e

  -- a view whose ticket no other has
  apart_set : (views : List (View E)) (id : ℕ) (w : View E) → Apart views → ((k t : ℕ) (u : View E) → k ≢ id → get_elem? views k ≡ some u → u.ticket ≡ Some t → w.ticket ≡ Some t → ⊥) → Apart (set views id w)
  apart_set views id w old new j k t u v atj atk hu hv =
      ⊎_elim
      (λ (x : (j ≡ id) × (w ≡ u)). ⊎_elim
      (λ (y : (k ≡ id) × (w ≡ v)). x.0 ∙ sym y.0)
      (λ (y : (k ≢ id) × (get_elem? views k ≡ some v)). absurd (new k t v y.0 y.1 hv (ap (λ (z : View E). z.ticket) x.1 ∙ hu)))
      (at_set views id k w v atk))
      (λ (x : (j ≢ id) × (get_elem? views j ≡ some u)). ⊎_elim
      (λ (y : (k ≡ id) × (w ≡ v)). absurd (new j t u x.0 x.1 hu (ap (λ (z : View E). z.ticket) y.1 ∙ hv)))
      (λ (y : (k ≢ id) × (get_elem? views k ≡ some v)). old j k t u v x.1 y.1 hu hv)
      (at_set views id k w v atk))
      (at_set views id j w u atj)

  apart_snoc : (views : List (View E)) (w : View E) → w.ticket ≡ None → Apart views → Apart (views ++ w ∷ [])
  apart_snoc views w blank old j k t u v atj atk hu hv =
      ⊎_elim
      (λ (x : get_elem? views j ≡ some u). ⊎_elim
      (λ (y : get_elem? views k ≡ some v). old j k t u v x y hu hv)
      (λ (y : w ≡ v). absurd (some_off t (sym blank ∙ (ap (λ (z : View E). z.ticket) y ∙ hv))))
      (at_snoc views w v k atk))
      (λ (x : w ≡ u). absurd (some_off t (sym blank ∙ (ap (λ (z : View E). z.ticket) x ∙ hu))))
      (at_snoc views w u j atj)

module _ {T E : Type 0} (history : T → List E) (ready : T → Type 0) where
  abbrev St : Type 0
  St = State (Option T) (View E)

  abbrev M : Type 0
  M = Me (Option T) (View E)

  abbrev Rule : St → Type 0
  Rule = Core history ready

  -- a view that has no turn changes, and has none afterwards
  place_set : (s : St) (log : List E) (ws : List ℕ) (id : ℕ) (v w : View E) → get_elem? s.views id ≡ some v → v.turn ≡ false → w.turn ≡ false → AtHome history ready s log ⊎ Away history ready s log
      → AtHome history ready record { words = ws; homes = s.homes; views = set s.views id w } log ⊎ Away history ready record { words = ws; homes = s.homes; views = set s.views id w } log
  place_set s log ws id v w at off_before off_after p = ⊎_elim
      (λ (h : AtHome history ready s log). inl (h.0, h.1, h.2, h.3, each_set (λ u. u.turn ≡ false) s.views id w (λ j u _. h.4 j u) off_after))
      (λ (h : Away history ready s log). inr (
        h.0,
        each_set (λ u. u.turn ≡ true → u.seen ≡ log) s.views id w (λ j u _. h.1 j u) (λ on. absurd (off (sym off_after ∙ on))),
        (
          h.2.0,
          h.2.1,
          set_else s.views id h.2.0 w (λ (e : h.2.0 ≡ id). off (sym off_before ∙ (ap (λ (z : View E). z.turn) (some-injective v h.2.1 (sym at ∙ (ap (λ (k : ℕ). get_elem? s.views k) (sym e) ∙ h.2.2))) ∙ h.2.3))) ∙ h.2.2,
          h.2.3,
        ),
      ))
      p

  -- a view changes that has its turn as before, and has seen as much
  place_same : (s : St) (log : List E) (ws : List ℕ) (id : ℕ) (v w : View E) → get_elem? s.views id ≡ some v → w.turn ≡ v.turn → w.seen ≡ v.seen → AtHome history ready s log ⊎ Away history ready s log
      → AtHome history ready record { words = ws; homes = s.homes; views = set s.views id w } log ⊎ Away history ready record { words = ws; homes = s.homes; views = set s.views id w } log
  place_same s log ws id v w at turn seen p = ⊎_elim
      (λ (h : AtHome history ready s log). inl (h.0, h.1, h.2, h.3, each_set (λ u. u.turn ≡ false) s.views id w (λ j u _. h.4 j u) (turn ∙ h.4 id v at)))
      (λ (h : Away history ready s log). inr (
        h.0,
        each_set (λ u. u.turn ≡ true → u.seen ≡ log) s.views id w (λ j u _. h.1 j u) (λ on. seen ∙ h.1 id v at (sym turn ∙ on)),
        still h,
      ))
      p
    where
      still : Away history ready s log → (j : ℕ) × (u : View E) × (get_elem? (set s.views id w) j ≡ some u) × (u.turn ≡ true)
      still h = dite (ℕ_discrete h.2.0 id)
          (λ e. (id, w, set_at s.views id v w at, turn ∙ (ap (λ (z : View E). z.turn) (some-injective v h.2.1 (sym at ∙ (ap (λ (k : ℕ). get_elem? s.views k) (sym e) ∙ h.2.2))) ∙ h.2.3)))
          (λ ne. (h.2.0, h.2.1, set_else s.views id h.2.0 w ne ∙ h.2.2, h.2.3))

  place_snoc : (s : St) (log : List E) (w : View E) → w.turn ≡ false → AtHome history ready s log ⊎ Away history ready s log
      → AtHome history ready record { words = s.words; homes = s.homes; views = s.views ++ w ∷ [] } log ⊎ Away history ready record { words = s.words; homes = s.homes; views = s.views ++ w ∷ [] } log
  place_snoc s log w is_off p = ⊎_elim
      (λ (h : AtHome history ready s log). inl (h.0, h.1, h.2, h.3, each_snoc (λ u. u.turn ≡ false) s.views w h.4 is_off))
      (λ (h : Away history ready s log). inr (
        h.0,
        each_snoc (λ u. u.turn ≡ true → u.seen ≡ log) s.views w h.1 (λ on. absurd (off (sym is_off ∙ on))),
        (h.2.0, h.2.1, at_longer s.views (w ∷ []) h.2.0 h.2.1 h.2.2, h.2.3),
      ))
      p

  -- a step that changes nothing
  unmoved : (s : St) (r : Rule s) (i id : ℕ) (cs : List (ℕ × Option T)) (v : View E) → get_elem? s.views id ≡ some v → Rule (stepped s i (get_or s.words i 0) id cs v keeps)
  unmoved s r i id cs v at =
      subst (λ (ws : List ℕ). Rule record { words = ws; homes = s.homes; views = set s.views id v }) (sym (set-get_or s.words i 0))
      (subst (λ (vs : List (View E)). Rule record { words = s.words; homes = s.homes; views = vs }) (sym (set_again s.views id v at)) r)

  pub draws : (slots id : ℕ) (me : M) (old new : ℕ) → new ≡ old + 1 → 0 < me.0.parts → me.0.ticket ≡ None → me.0.turn ≡ false
      → Allows Rule slots id me 0 (λ n. either (eqb n old) new n) (drawn (step slots 0 old new none) me)
  draws slots id me old new up live no_ticket no_turn s r _ at _ = exchanged (get_or s.words 0 0) old new
      (λ z. (w : View E) × (a : Rattle.atomic_table.specs.Table.Act (Option T)) × Rattle.atomic_table.specs.Table.Valid s.homes me.1 a × Rule (stepped s 0 z id me.1 w a) × drawn (step slots 0 old new none) me (get_or s.words 0 0) (w, Rattle.atomic_table.specs.Table.carried_after me.1 a))
      (λ hit. let w : View E = waiting me.0 old in
      let v : View E = me.0 in
      let here : get_or s.words 0 0 ≡ r.next = ap (λ (l : List ℕ). get_or l 0 0) r.words in
      let counted : r.serving + total tickets s.views ≡ r.next = r.counted in
      let mine = r.fits id v at in
      let moved : total tickets (set s.views id w) + tickets v ≡ total tickets s.views + tickets w = total_set tickets s.views id v w at in
      let had : tickets v ≡ 0 = ap count_ticket no_ticket in (
        w,
        keeps,
        tt,
        record {
          next = new;
          serving = r.serving;
          log = r.log;
          words = ap (λ (l : List ℕ). set l 0 new) r.words;
          fits = each_set (Fits new r.serving r.log) s.views id w
              (λ j u _ atj. let f = r.fits j u atj in record { front = f.front; heard = f.heard; less = f.less; own = f.own; held = λ t e. let h = f.held t e in (h.0, omega arith); served = f.served; gone = f.gone })
              record {
                front = mine.front;
                heard = (r.log, refl);
                less = omega arith;
                own = mine.own;
                held = λ t e. let same : old ≡ t = same_number old t e in (omega arith, omega arith);
                served = λ on. absurd (off (sym no_turn ∙ on));
                gone = λ none_left. absurd (omega arith);
              };
          apart = apart_set s.views id w r.apart (λ k t u _ atk hu hw. let same : old ≡ t = same_number old t hw in let h = (r.fits k u atk).held t hu in absurd (omega arith));
          counted = omega arith;
          covered = λ n. let h = total_set (λ (u : View E). times n u.own) s.views id v w at in let c = r.covered n in omega arith;
          parted = let h = total_set (λ (u : View E). u.parts) s.views id v w at in let c = r.parted in omega arith;
          place = place_set s r.log (set s.words 0 new) id v w at no_turn no_turn r.place;
        },
        ((λ _. refl), (λ miss. absurd (miss hit))),
      ))
      (λ miss. (me.0, keeps, tt, unmoved s r 0 id me.1 me.0 at, ((λ hit. absurd (miss hit)), (λ _. refl))))

  pub looks : (slots id : ℕ) (me : M) (t : ℕ) → 0 < me.0.parts → me.0.ticket ≡ Some t → me.0.turn ≡ false
      → Allows Rule slots id me 1 (λ n. n) (looked history ready (step slots 1 0 0 none) me)
  looks slots id me t live ticket no_turn s r _ at _ =
      let v : View E = me.0 in
      let here : get_or s.words 1 0 ≡ r.serving = ap (λ (l : List ℕ). get_or l 1 0) r.words in
      dite (ℕ_discrete (get_or s.words 1 0) t)
      (λ hit. let served : t ≡ r.serving = sym hit ∙ here in
      let mine = r.fits id v at in
      let w : View E = entered v r.log in
      let here_only : (j : ℕ) (u : View E) → get_elem? s.views j ≡ some u → u.turn ≡ true → j ≡ id =
      λ j u atj on. r.apart j id t u v atj at ((r.fits j u atj).served on ∙ ap Some (sym served)) ticket in
      let home : AtHome history ready s r.log = ⊎_elim (λ (h : AtHome history ready s r.log). h) (λ (h : Away history ready s r.log).
      let e : h.2.0 ≡ id = here_only h.2.0 h.2.1 h.2.2 h.2.3 in
      absurd (off (sym no_turn ∙ (ap (λ (z : View E). z.turn) (some-injective v h.2.1 (sym at ∙ (ap (λ (k : ℕ). get_elem? s.views k) (sym e) ∙ h.2.2))) ∙ h.2.3)))) r.place in
      let x : T = home.0 in
      let moved = total_set tickets s.views id v w at in
      let same_tickets : tickets w ≡ tickets v = refl in (
        w,
        takes 0 (Some x),
        ap (λ (l : List _). get_elem? l 0) home.1,
        record {
          next = r.next;
          serving = r.serving;
          log = r.log;
          words = ap (λ (l : List ℕ). set l 1 (get_or l 1 0)) r.words;
          fits = each_set (Fits r.next r.serving r.log) s.views id w
              (λ j u _ atj. r.fits j u atj)
              record {
                front = starts_self r.log;
                heard = (r.log, refl);
                less = omega arith;
                own = λ n has. let l = mine.own n has in let m = starts_length r.log v.seen mine.front in omega arith;
                held = mine.held;
                served = λ _. ticket ∙ ap Some served;
                gone = λ none_left. absurd (omega arith);
              };
          apart = apart_set s.views id w r.apart (λ k t' u away atk hu hw. away (r.apart k id t' u v atk at hu hw));
          counted = let c : r.serving + total tickets s.views ≡ r.next = r.counted in omega arith;
          covered = λ n. let h = total_set (λ (u : View E). times n u.own) s.views id v w at in let c = r.covered n in omega arith;
          parted = let h = total_set (λ (u : View E). u.parts) s.views id v w at in let c = r.parted in omega arith;
          place = inr (
            ap (λ (l : List _). set l 0 none) home.1,
            each_set (λ u. u.turn ≡ true → u.seen ≡ r.log) s.views id w (λ j u _ atj on. absurd (off (sym (home.4 j u atj) ∙ on))) (λ _. refl),
            (id, w, set_at s.views id v w at, refl),
          );
        },
        (
          (λ _. (x, (λ i. (entered v (sym home.2 i), (0, Some x) ∷ me.1)), subst (λ l. StartsWith l v.seen) (sym home.2) mine.front, home.3)),
          (λ miss. absurd (miss (ticket ∙ ap Some (sym hit)))),
        ),
      ))
      (λ miss. (me.0, keeps, tt, unmoved s r 1 id me.1 me.0 at, ((λ hit. absurd (miss (sym (same_number t (get_or s.words 1 0) (sym ticket ∙ hit))))), (λ _. refl))))

  pub publishes : (slots id : ℕ) (v : View E) (x : T) (t new : ℕ) → new ≡ t + 1 → 0 < v.parts → v.ticket ≡ Some t → v.turn ≡ true → StartsWith (history x) v.seen → ready x
      → Allows Rule slots id (v, (0, Some x) ∷ []) 1 (λ _. new) (λ _. published history ready (step slots 1 new 0 none) (v, (0, Some x) ∷ []) new)
  publishes slots id v x t new up live ticket on longer good s r _ at _ =
      let mine = r.fits id v at in
      let served : t ≡ r.serving = same_number t r.serving (sym ticket ∙ mine.served on) in
      let out : Away history ready s r.log = ⊎_elim (λ (h : AtHome history ready s r.log). absurd (off (sym (h.4 id v at) ∙ on))) (λ (h : Away history ready s r.log). h) r.place in
      let seen : v.seen ≡ r.log = out.1 id v at on in
      let log : List E = history x in
      let more : List E = longer.0 in
      let w : View E = left_with v log in
      let rest_is : drop (length v.seen) log ≡ more = ap (drop (length v.seen)) longer.1 ∙ drop_front v.seen more in
      let own_is : (n : ℕ) → times n w.own ≡ times n v.own + times n (places (length v.seen) more) =
      λ n. times_append n v.own (places (length v.seen) (drop (length v.seen) log)) ∙ ap (λ (l : List E). times n v.own + times n (places (length v.seen) l)) rest_is in
      let long : length log ≡ length v.seen + length more = ap length longer.1 ∙ length-append v.seen more in
      let was : length v.seen ≡ length r.log = ap length seen in
      let moved : total tickets (set s.views id w) + tickets v ≡ total tickets s.views + tickets w = total_set tickets s.views id v w at in
      let had : tickets v ≡ 1 = ap count_ticket ticket in
      let counted : r.serving + total tickets s.views ≡ r.next = r.counted in (
        w,
        gives,
        tt,
        record {
          next = r.next;
          serving = new;
          log = log;
          words = ap (λ (l : List ℕ). set l 1 new) r.words;
          fits = each_set (Fits r.next new log) s.views id w
              (λ j u away atj. let f = r.fits j u atj in record {
                front = let st : StartsWith r.log u.seen = f.front in (st.0 ++ more, longer.1 ∙ (ap (λ (l : List E). l ++ more) (seen ∙ st.1) ∙ append_assoc u.seen st.0 more));
                heard = let st : StartsWith r.log u.told = f.heard in (st.0 ++ more, longer.1 ∙ (ap (λ (l : List E). l ++ more) (seen ∙ st.1) ∙ append_assoc u.told st.0 more));
                less = f.less;
                own = f.own;
                held = λ t' e. let h = f.held t' e in
                    let other : t' ≢ r.serving = λ same. away (r.apart j id t u v atj at (e ∙ ap Some (same ∙ sym served)) ticket) in (omega arith, h.1);
                served = λ u_on. absurd (away (r.apart j id t u v atj at (f.served u_on ∙ ap Some (sym served)) ticket));
                gone = f.gone;
              })
              record {
                front = starts_self log;
                heard = (log, refl);
                less = omega arith;
                own = λ n has. let o = own_is n in let p = times_places n (length v.seen) more in dite (dec_lt 0 (times n v.own))
                    (λ old. let l = mine.own n old in omega arith)
                    (λ not_old. let q = below_pos n (length v.seen + length more) (omega arith) in omega arith);
                held = λ t' e. absurd (some_off t' e);
                served = λ u_on. absurd (off u_on);
                gone = λ none_left. absurd (omega arith);
              };
          apart = apart_set s.views id w r.apart (λ k t' u away atk hu hw. some_off t' hw);
          counted = omega arith;
          covered = λ n.
              let h : total (λ (u : View E). times n u.own) (set s.views id w) + times n v.own ≡ total (λ (u : View E). times n u.own) s.views + times n w.own = total_set (λ (u : View E). times n u.own) s.views id v w at in
              let c : total (λ (u : View E). times n u.own) s.views ≡ once_below n (length r.log) = r.covered n in
              let o = own_is n in
              let p = times_places n (length v.seen) more in
              let a : once_below n (length log) ≡ once_below n (length v.seen + length more) = ap (once_below n) long in
              let b : once_below n (length v.seen) ≡ once_below n (length r.log) = ap (once_below n) was in omega arith;
          parted = let h = total_set (λ (u : View E). u.parts) s.views id v w at in let c = r.parted in omega arith;
          place = inl (
            x,
            ap (λ (l : List _). set l 0 (some (Some x))) out.0,
            refl,
            good,
            each_set (λ u. u.turn ≡ false) s.views id w (λ j u away atj. not_on u.turn (λ u_on. away (r.apart j id t u v atj at ((r.fits j u atj).served u_on ∙ ap Some (sym served)) ticket))) refl,
          );
        },
        refl,
      )
    where
      not_on : (b : Bool) → (b ≡ true → ⊥) → b ≡ false
      not_on true h = absurd (h refl)
      not_on false h = refl

  pub splits : (id : ℕ) (v : View E) → 1 < v.parts → Splits Rule id v (kept_half v) (given_half v)
  splits id v enough s r at =
      let left : View E = kept_half v in
      let right : View E = given_half v in
      let mine = r.fits id v at in
      let half : v.parts / 2 < v.parts = omega arith in
      let some_half : 0 < v.parts / 2 = omega arith in
      record {
        next = r.next;
        serving = r.serving;
        log = r.log;
        words = r.words;
        fits = each_snoc (Fits r.next r.serving r.log) (set s.views id left) right
            (each_set (Fits r.next r.serving r.log) s.views id left (λ j u _ atj. r.fits j u atj)
            record { front = mine.front; heard = (r.log, refl); less = omega arith; own = mine.own; held = mine.held; served = mine.served; gone = λ z. absurd (omega arith) })
            record { front = mine.front; heard = (r.log, refl); less = omega arith; own = λ n z. absurd (omega arith); held = λ t e. absurd (some_off t e); served = λ on. absurd (off on); gone = λ z. absurd (omega arith) };
        apart = apart_snoc (set s.views id left) right refl (apart_set s.views id left r.apart (λ k t u away atk hu hw. away (r.apart k id t u v atk at hu hw)));
        counted = let h = total_set tickets s.views id v left at in let a = total_snoc tickets (set s.views id left) right in let c : r.serving + total tickets s.views ≡ r.next = r.counted in omega arith;
        covered = λ n. let f : View E → ℕ = λ u. times n u.own in let h = total_set f s.views id v left at in let a = total_snoc f (set s.views id left) right in let c = r.covered n in omega arith;
        parted = let f : View E → ℕ = λ u. u.parts in let h = total_set f s.views id v left at in let a = total_snoc f (set s.views id left) right in let c = r.parted in omega arith;
        place = place_snoc record { words = s.words; homes = s.homes; views = set s.views id left } r.log right refl (place_same s r.log s.words id v left at refl refl r.place);
      }

  pub joins : (id : ℕ) (v : View E) (other : ℕ) (u : View E) → v.ticket ≡ None → v.turn ≡ false → u.ticket ≡ None → u.turn ≡ false → 0 < v.parts → Joins Rule id v other u (both v u) spent
  joins id v other u blank no_turn blank' no_turn' live s r at apart there =
      let w : View E = both v u in
      let there' : get_elem? s.views other ≡ some u = sym (set_else s.views id other w apart) ∙ there in
      let mine = r.fits id v at in
      let theirs = r.fits other u there' in
      let long = longer_length v.seen u.seen in
      let vs : List (View E) = set s.views id w in
      record {
        next = r.next;
        serving = r.serving;
        log = r.log;
        words = r.words;
        fits = each_set (Fits r.next r.serving r.log) vs other spent
            (λ j z _ atj. each_set (Fits r.next r.serving r.log) s.views id w (λ i y _ ati. r.fits i y ati)
            record {
              front = longer_starts r.log v.seen u.seen mine.front theirs.front;
              heard = shorter_starts r.log v.seen u.seen mine.front theirs.front;
              less = shorter_length v.seen u.seen;
              own = λ n has. let a = times_append n v.own u.own in dite (dec_lt 0 (times n v.own))
                  (λ old. let l = mine.own n old in omega (arith, long.0))
                  (λ not_old. let l = theirs.own n (omega arith) in omega (arith, long.1));
              held = mine.held;
              served = mine.served;
              gone = λ z. absurd (omega arith);
            } j z atj)
            record { front = (r.log, refl); heard = (r.log, refl); less = omega arith; own = λ n z. absurd (omega arith); held = λ t e. absurd (some_off t e); served = λ on. absurd (off on); gone = λ _. (refl, refl) };
        apart = apart_set vs other spent (apart_set s.views id w r.apart (λ k t z away atk hu hw. some_off t (sym blank ∙ hw))) (λ k t z away atk hu hw. some_off t hw);
        counted = let h = total_set tickets s.views id v w at in let a = total_set tickets vs other u spent there in
            let n : tickets u ≡ 0 = ap count_ticket blank' in
            let c : r.serving + total tickets s.views ≡ r.next = r.counted in omega arith;
        covered = λ n. let f : View E → ℕ = λ z. times n z.own in let h = total_set f s.views id v w at in let a = total_set f vs other u spent there in
            let b = times_append n v.own u.own in let c = r.covered n in omega arith;
        parted = let f : View E → ℕ = λ z. z.parts in let h = total_set f s.views id v w at in let a = total_set f vs other u spent there in let c = r.parted in omega arith;
        place = place_set record { words = s.words; homes = s.homes; views = vs } r.log s.words other u spent there no_turn' refl (place_set s r.log s.words id v w at no_turn no_turn r.place);
      }

  pub settles : (slots id : ℕ) (me : M) → me.0.turn ≡ false → Allows Rule slots id me 0 (λ n. n) (compared (step slots 0 0 0 none) me)
  settles slots id me no_turn s r _ at _ =
      let v : View E = me.0 in
      let w : View E = settled v in
      let mine = r.fits id v at in (
        w,
        keeps,
        tt,
        record {
          next = r.next;
          serving = r.serving;
          log = r.log;
          words = ap (λ (l : List ℕ). set l 0 (get_or l 0 0)) r.words;
          fits = each_set (Fits r.next r.serving r.log) s.views id w (λ j u _ atj. r.fits j u atj)
              record { front = mine.front; heard = (r.log, refl); less = omega arith; own = mine.own; held = mine.held; served = mine.served; gone = mine.gone };
          apart = apart_set s.views id w r.apart (λ k t u away atk hu hw. away (r.apart k id t u v atk at hu hw));
          counted = let h = total_set tickets s.views id v w at in let c : r.serving + total tickets s.views ≡ r.next = r.counted in omega arith;
          covered = λ n. let h = total_set (λ (u : View E). times n u.own) s.views id v w at in let c = r.covered n in omega arith;
          parted = let h = total_set (λ (u : View E). u.parts) s.views id v w at in let c = r.parted in omega arith;
          place = place_set s r.log (set s.words 0 (get_or s.words 0 0)) id v w at no_turn no_turn r.place;
        },
        (refl, starts_shorter v.told v.seen mine.heard.0 mine.front.0 (sym mine.heard.1 ∙ mine.front.1) mine.less),
      )

  pub begins : (x : T) → ready x → Rule (opening (0 ∷ 0 ∷ []) (Some x ∷ []) (opened (history x)))
  begins x good = record {
    next = 0;
    serving = 0;
    log = history x;
    words = refl;
    fits = each_one (Fits 0 0 (history x)) (opened (history x)) record {
      front = starts_self (history x);
      heard = (history x, refl);
      less = omega arith;
      own = λ n has. let p = times_places n 0 (history x) in let q = below_pos n (0 + length (history x)) (omega arith) in omega arith;
      held = λ t e. absurd (some_off t e);
      served = λ on. absurd (off on);
      gone = λ z. absurd (omega arith);
    };
    apart = λ j k t u v atj atk hu hv. absurd (each_one (λ w. w.ticket ≡ Some t → ⊥) (opened (history x)) (λ h. some_off t h) j u atj hu);
    counted = omega arith;
    covered = λ n. let p = times_places n 0 (history x) in let z : once_below n 0 ≡ 0 = below_no n 0 (omega arith) in
        let e : once_below n (0 + length (history x)) ≡ once_below n (length (history x)) = ap (once_below n) (omega arith) in omega arith;
    parted = omega arith;
    place = inl (x, refl, refl, good, each_one (λ w. w.turn ≡ false) (opened (history x)) refl);
  }

  -- at the end, where one view has all parts and no ticket, the value is at home, and the view has seen its history and owns each place
  pub ends : (v : View E) (id : ℕ) (ws : List ℕ) (xs : List (Option T)) → v.ticket ≡ None → v.turn ≡ false → v.parts ≡ 2 ^ 64 → Final (Seen Rule id v) ws xs
      → (x : T) × (get_elem? xs 0 ≡ some (Some x)) × (history x ≡ v.seen) × ready x × ((n : ℕ) → times n v.own ≡ once_below n (length v.seen))
  ends v id ws xs blank no_turn all fin =
      let s = fin.0 in
      let r = fin.1.0 in
      let at : get_elem? s.views id ≡ some v = fin.1.1 in
      let mine = r.fits id v at in
      let sole : total (λ (u : View E). u.parts) s.views ≡ v.parts = r.parted ∙ sym all in
      let own_all : (n : ℕ) → times n v.own ≡ once_below n (length r.log) =
      λ n. sym (total_sole (λ (u : View E). times n u.own) (λ (u : View E). u.parts) s.views id v at sole (λ j u atj z. ap (times n) ((r.fits j u atj).gone z).1)) ∙ r.covered n in
      let waiting_none : total tickets s.views ≡ tickets v =
      total_sole tickets (λ (u : View E). u.parts) s.views id v at sole (λ j u atj z. ap count_ticket ((r.fits j u atj).gone z).0) in
      let none_tickets : tickets v ≡ 0 = ap count_ticket blank in
      let home : AtHome history ready s r.log = ⊎_elim (λ (h : AtHome history ready s r.log). h) (λ (h : Away history ready s r.log).
      let part = total_part tickets s.views h.2.0 h.2.1 h.2.2 in
      let one : tickets h.2.1 ≡ 1 = ap count_ticket ((r.fits h.2.0 h.2.1 h.2.2).served h.2.3) in absurd (omega arith)) r.place in
      let short : length r.log ≤ length v.seen = dite (dec_lt (length v.seen) (length r.log))
      (λ l. let o = own_all (length v.seen) in let b = below_yes (length v.seen) (length r.log) l in let m = mine.own (length v.seen) (omega arith) in absurd (omega arith))
      (λ nl. omega arith) in
      let log_is : r.log ≡ v.seen = starts_whole r.log v.seen mine.front short in (
        home.0,
        fin.4 0 (Some home.0) (ap (λ (l : List _). get_elem? l 0) home.1),
        home.2 ∙ log_is,
        home.3,
        λ n. own_all n ∙ ap (λ (l : List E). once_below n (length l)) log_is,
      )

  pub publishes_as : (slots id : ℕ) (me : M) (v : View E) (x : T) (t new : ℕ) → me ≡ (v, (0, Some x) ∷ []) → new ≡ t + 1 → 0 < v.parts → v.ticket ≡ Some t → v.turn ≡ true → StartsWith (history x) v.seen → ready x
      → Allows Rule slots id me 1 (λ _. new) (λ _. published history ready (step slots 1 new 0 none) me new)
  publishes_as slots id me v x t new is up live ticket on longer good =
      subst (λ (m : M). Allows Rule slots id m 1 (λ _. new) (λ _. published history ready (step slots 1 new 0 none) m new)) (sym is) (publishes slots id v x t new up live ticket on longer good)
