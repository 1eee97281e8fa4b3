-- The memos: one of a piece written, and what else stands. Then what a change of no more than what is kept of pieces leaves as it was.
use Rattle.std.proofs.Common.{◌≡◌, ℕ, ◌+◌, ◌*◌, ◌<◌, ◌≤◌, ◌≢◌, List, length, get_or, drop, set, refl, sym, ◌∙◌, add-zero, inl, inr, arith}
use Rattle.std.proofs.lemmas.List.{length-set, length-drop, get_or-set_same, get_or-set_other, get_or-drop, drop-set-lt}
use Rattle.std.proofs.lemmas.Bool.{cases_eq, cases_lt}
use Rattle.tree.specs.Tree.{Sums}
use Rattle.pieces.specs.Marks.{Has}
use Rattle.pieces.specs.Store.{slot, used, piece, cells_of, before, Store}
use Rattle.pieces.proofs.Change.{carried}
use Rattle.pieces.proofs.Cuts.{same_piece, before_same}
use Rattle.pieces.proofs.Strung.{strung_same}
use Rattle.kept.specs.Kept.{leaf, memo_of, Right, Tallied, Trees, Kept, Above, Around}
use Rattle.kept.specs.declared.memo.Memo.{Memo}
use Rattle.kept.proofs.Whole.{trees_of, tallied_of, whole}

pub above_none : (p : List ℕ) → Above p p
above_none p = record { long = refl; below = λ w l. refl; past = refl }

pub above_both : (p q r : List ℕ) → Above p q → Above q r → Above p r
above_both p q r g h = record { long = h.long ∙ g.long; below = λ w l. h.below w l ∙ g.below w l; past = h.past ∙ g.past }

-- a tree is known from its words
pub sums_same : (p q : List ℕ) (t : ℕ) → length q ≡ length p → ((w : ℕ) → t ≤ w → w < t + 4096 → get_or q w 0 ≡ get_or p w 0) → Sums (drop t p) → Sums (drop t q)
sums_same p q t e h s =
    record {
      long = let l = simp length-drop at s.long in simp length-drop (omega arith);
      sums = λ i a b. node i (omega arith) ∙ s.sums i a b ∙ sym (let x = node (2 * i) (omega arith) in let y = node (2 * i + 1) (omega arith) in cc);
      light = λ j a. rw (node (2048 + j) (omega arith)) (s.light j a);
    }
  where
    node : (i : ℕ) → i < 4096 → get_or (drop t q) i 0 ≡ get_or (drop t p) i 0
    node i l = get_or-drop t q i 0 ∙ h (t + i) (omega arith) (omega arith) ∙ sym (get_or-drop t p i 0)

module _ (c p q : List ℕ) (s : ℕ) (t : Store c p s) (h : Above p q) where
  pub above_slot : (k : ℕ) → k < s → slot q k ≡ slot p k
  above_slot k l = let most = t.table.order.most in h.below k (omega arith)

  pub above_used : (k : ℕ) → k < 2048 → used q k ≡ used p k
  above_used k l = h.below (4096 + k) (omega arith)

  pub above_piece : (k : ℕ) → k < s → piece c q k ≡ piece c p k
  above_piece k l = let most = t.table.order.most in same_piece c q p k k (above_slot k l) (above_used k (omega arith))

  pub above_text : cells_of c q s ≡ cells_of c p s
  above_text = strung_same (piece c q) (piece c p) 0 0 s (λ i l. above_piece (0 + i) (omega arith))

  pub above_before : (k : ℕ) → k ≤ 2048 → before q k ≡ before p k
  above_before k l = before_same q p k (λ j i. above_used j (omega arith))

  -- the store stands
  pub above_store : Store c q s
  above_store =
      let o = t.table.order in
      let most = o.most in
      let long = h.long in
      let words = o.words in
      record {
        room = t.room;
        table = record {
          order = record {
            some = o.some;
            most = most;
            words = omega arith;
            inside = λ k l. rw (above_slot k l) (o.inside k l);
            apart = λ i j a b e. o.apart i j a b (sym (above_slot i a) ∙ e ∙ above_slot j b);
            small = λ k l. rw (above_used k (omega arith)) (o.small k l);
            idle = λ k a b. above_used k b ∙ o.idle k a b;
          };
          sums = sums_same p q 2048 h.long (λ w a b. h.below w (omega arith)) t.table.sums;
        };
        marked = λ k l. rw (above_piece k l) (carried p q s o above_slot has k l (piece c p k) (t.marked k l));
      }
    where
      has : (i m : ℕ) → i < 2048 → Has p i m → Has q i m
      has i m l x = record { low = rw (h.below (6144 + i) (omega arith)) x.low; high = rw (h.below (8192 + i) (omega arith)) x.high }

  -- as a change of the text it is none
  pub above_around : Around c p c q s
  above_around = record { cells_long = refl; words_long = h.long; cells_past = refl; words_past = h.past; spare = λ k a b. h.below k (omega arith) }

  -- what is kept of a piece stands, if the words that say so do
  pub above_tallied : (k : ℕ) → k < s → leaf q 10240 k ≡ leaf p 10240 k → leaf q 14336 k ≡ leaf p 14336 k
      → ((j : ℕ) → j < 7 → get_or q (18432 + 8 * slot p k + j) 0 ≡ get_or p (18432 + 8 * slot p k + j) 0) → Tallied c p k → Tallied c q k
  above_tallied k l a b m x =
      record {
        accepted = rw (a, above_piece k l) x.accepted;
        rejected = rw (b, above_piece k l) x.rejected;
        memo = rw (above_slot k l, above_piece k l, m0, m 1 (omega arith), m 2 (omega arith), m 3 (omega arith), m 4 (omega arith), m 5 (omega arith), m 6 (omega arith)) x.memo;
      }
    where
      m0 : get_or q (18432 + 8 * slot p k) 0 ≡ get_or p (18432 + 8 * slot p k) 0
      m0 = simp add-zero at (m 0 (omega arith))

-- the trees stand, if their words do
pub above_trees : (p q : List ℕ) (s : ℕ) → length q ≡ length p → ((w : ℕ) → 10240 ≤ w → w < 18432 → get_or q w 0 ≡ get_or p w 0) → Trees p s → Trees q s
above_trees p q s e h t =
    record {
      long = let l = t.long in omega arith;
      accepted = sums_same p q 10240 e (λ w a b. h w a (omega arith)) t.accepted;
      rejected = sums_same p q 14336 e (λ w a b. h w (omega arith) (omega arith)) t.rejected;
      none_accepted = λ k a b. h (10240 + 2048 + k) (omega arith) (omega arith) ∙ t.none_accepted k a b;
      none_rejected = λ k a b. h (14336 + 2048 + k) (omega arith) (omega arith) ∙ t.none_rejected k a b;
    }

-- seven words in a row written
abbrev seven : List ℕ → ℕ → (v0 v1 v2 v3 v4 v5 v6 : ℕ) → List ℕ
seven p a v0 v1 v2 v3 v4 v5 v6 = set (set (set (set (set (set (set p a v0) (a + 1) v1) (a + 2) v2) (a + 3) v3) (a + 4) v4) (a + 5) v5) (a + 6) v6

module _ (p : List ℕ) (a v0 v1 v2 v3 v4 v5 v6 : ℕ) where
  seven_long : length (seven p a v0 v1 v2 v3 v4 v5 v6) ≡ length p
  seven_long = simp length-set refl

  seven_below : (w : ℕ) → w < a → get_or (seven p a v0 v1 v2 v3 v4 v5 v6) w 0 ≡ get_or p w 0
  seven_below w l =
      get_or-set_other (set (set (set (set (set (set p a v0) (a + 1) v1) (a + 2) v2) (a + 3) v3) (a + 4) v4) (a + 5) v5) (a + 6) w v6 0 (omega arith)
      ∙ get_or-set_other (set (set (set (set (set p a v0) (a + 1) v1) (a + 2) v2) (a + 3) v3) (a + 4) v4) (a + 5) w v5 0 (omega arith)
      ∙ get_or-set_other (set (set (set (set p a v0) (a + 1) v1) (a + 2) v2) (a + 3) v3) (a + 4) w v4 0 (omega arith)
      ∙ get_or-set_other (set (set (set p a v0) (a + 1) v1) (a + 2) v2) (a + 3) w v3 0 (omega arith)
      ∙ get_or-set_other (set (set p a v0) (a + 1) v1) (a + 2) w v2 0 (omega arith)
      ∙ get_or-set_other (set p a v0) (a + 1) w v1 0 (omega arith)
      ∙ get_or-set_other p a w v0 0 (omega arith)

  seven_behind : (w : ℕ) → a + 7 ≤ w → get_or (seven p a v0 v1 v2 v3 v4 v5 v6) w 0 ≡ get_or p w 0
  seven_behind w l =
      get_or-set_other (set (set (set (set (set (set p a v0) (a + 1) v1) (a + 2) v2) (a + 3) v3) (a + 4) v4) (a + 5) v5) (a + 6) w v6 0 (omega arith)
      ∙ get_or-set_other (set (set (set (set (set p a v0) (a + 1) v1) (a + 2) v2) (a + 3) v3) (a + 4) v4) (a + 5) w v5 0 (omega arith)
      ∙ get_or-set_other (set (set (set (set p a v0) (a + 1) v1) (a + 2) v2) (a + 3) v3) (a + 4) w v4 0 (omega arith)
      ∙ get_or-set_other (set (set (set p a v0) (a + 1) v1) (a + 2) v2) (a + 3) w v3 0 (omega arith)
      ∙ get_or-set_other (set (set p a v0) (a + 1) v1) (a + 2) w v2 0 (omega arith)
      ∙ get_or-set_other (set p a v0) (a + 1) w v1 0 (omega arith)
      ∙ get_or-set_other p a w v0 0 (omega arith)

  seven_past : (n : ℕ) → a + 7 ≤ n → drop n (seven p a v0 v1 v2 v3 v4 v5 v6) ≡ drop n p
  seven_past n l =
      drop-set-lt n (set (set (set (set (set (set p a v0) (a + 1) v1) (a + 2) v2) (a + 3) v3) (a + 4) v4) (a + 5) v5) (a + 6) v6 (omega arith)
      ∙ drop-set-lt n (set (set (set (set (set p a v0) (a + 1) v1) (a + 2) v2) (a + 3) v3) (a + 4) v4) (a + 5) v5 (omega arith)
      ∙ drop-set-lt n (set (set (set (set p a v0) (a + 1) v1) (a + 2) v2) (a + 3) v3) (a + 4) v4 (omega arith)
      ∙ drop-set-lt n (set (set (set p a v0) (a + 1) v1) (a + 2) v2) (a + 3) v3 (omega arith)
      ∙ drop-set-lt n (set (set p a v0) (a + 1) v1) (a + 2) v2 (omega arith)
      ∙ drop-set-lt n (set p a v0) (a + 1) v1 (omega arith)
      ∙ drop-set-lt n p a v0 (omega arith)

  module _ (l : a + 7 ≤ length p) where
    seven_0 : get_or (seven p a v0 v1 v2 v3 v4 v5 v6) a 0 ≡ v0
    seven_0 =
        get_or-set_other (set (set (set (set (set (set p a v0) (a + 1) v1) (a + 2) v2) (a + 3) v3) (a + 4) v4) (a + 5) v5) (a + 6) a v6 0 (omega arith)
        ∙ get_or-set_other (set (set (set (set (set p a v0) (a + 1) v1) (a + 2) v2) (a + 3) v3) (a + 4) v4) (a + 5) a v5 0 (omega arith)
        ∙ get_or-set_other (set (set (set (set p a v0) (a + 1) v1) (a + 2) v2) (a + 3) v3) (a + 4) a v4 0 (omega arith)
        ∙ get_or-set_other (set (set (set p a v0) (a + 1) v1) (a + 2) v2) (a + 3) a v3 0 (omega arith)
        ∙ get_or-set_other (set (set p a v0) (a + 1) v1) (a + 2) a v2 0 (omega arith)
        ∙ get_or-set_other (set p a v0) (a + 1) a v1 0 (omega arith)
        ∙ get_or-set_same p a v0 0 (omega arith)

    seven_1 : get_or (seven p a v0 v1 v2 v3 v4 v5 v6) (a + 1) 0 ≡ v1
    seven_1 =
        get_or-set_other (set (set (set (set (set (set p a v0) (a + 1) v1) (a + 2) v2) (a + 3) v3) (a + 4) v4) (a + 5) v5) (a + 6) (a + 1) v6 0 (omega arith)
        ∙ get_or-set_other (set (set (set (set (set p a v0) (a + 1) v1) (a + 2) v2) (a + 3) v3) (a + 4) v4) (a + 5) (a + 1) v5 0 (omega arith)
        ∙ get_or-set_other (set (set (set (set p a v0) (a + 1) v1) (a + 2) v2) (a + 3) v3) (a + 4) (a + 1) v4 0 (omega arith)
        ∙ get_or-set_other (set (set (set p a v0) (a + 1) v1) (a + 2) v2) (a + 3) (a + 1) v3 0 (omega arith)
        ∙ get_or-set_other (set (set p a v0) (a + 1) v1) (a + 2) (a + 1) v2 0 (omega arith)
        ∙ get_or-set_same (set p a v0) (a + 1) v1 0 (simp length-set (omega arith))

    seven_2 : get_or (seven p a v0 v1 v2 v3 v4 v5 v6) (a + 2) 0 ≡ v2
    seven_2 =
        get_or-set_other (set (set (set (set (set (set p a v0) (a + 1) v1) (a + 2) v2) (a + 3) v3) (a + 4) v4) (a + 5) v5) (a + 6) (a + 2) v6 0 (omega arith)
        ∙ get_or-set_other (set (set (set (set (set p a v0) (a + 1) v1) (a + 2) v2) (a + 3) v3) (a + 4) v4) (a + 5) (a + 2) v5 0 (omega arith)
        ∙ get_or-set_other (set (set (set (set p a v0) (a + 1) v1) (a + 2) v2) (a + 3) v3) (a + 4) (a + 2) v4 0 (omega arith)
        ∙ get_or-set_other (set (set (set p a v0) (a + 1) v1) (a + 2) v2) (a + 3) (a + 2) v3 0 (omega arith)
        ∙ get_or-set_same (set (set p a v0) (a + 1) v1) (a + 2) v2 0 (simp length-set (omega arith))

    seven_3 : get_or (seven p a v0 v1 v2 v3 v4 v5 v6) (a + 3) 0 ≡ v3
    seven_3 =
        get_or-set_other (set (set (set (set (set (set p a v0) (a + 1) v1) (a + 2) v2) (a + 3) v3) (a + 4) v4) (a + 5) v5) (a + 6) (a + 3) v6 0 (omega arith)
        ∙ get_or-set_other (set (set (set (set (set p a v0) (a + 1) v1) (a + 2) v2) (a + 3) v3) (a + 4) v4) (a + 5) (a + 3) v5 0 (omega arith)
        ∙ get_or-set_other (set (set (set (set p a v0) (a + 1) v1) (a + 2) v2) (a + 3) v3) (a + 4) (a + 3) v4 0 (omega arith)
        ∙ get_or-set_same (set (set (set p a v0) (a + 1) v1) (a + 2) v2) (a + 3) v3 0 (simp length-set (omega arith))

    seven_4 : get_or (seven p a v0 v1 v2 v3 v4 v5 v6) (a + 4) 0 ≡ v4
    seven_4 =
        get_or-set_other (set (set (set (set (set (set p a v0) (a + 1) v1) (a + 2) v2) (a + 3) v3) (a + 4) v4) (a + 5) v5) (a + 6) (a + 4) v6 0 (omega arith)
        ∙ get_or-set_other (set (set (set (set (set p a v0) (a + 1) v1) (a + 2) v2) (a + 3) v3) (a + 4) v4) (a + 5) (a + 4) v5 0 (omega arith)
        ∙ get_or-set_same (set (set (set (set p a v0) (a + 1) v1) (a + 2) v2) (a + 3) v3) (a + 4) v4 0 (simp length-set (omega arith))

    seven_5 : get_or (seven p a v0 v1 v2 v3 v4 v5 v6) (a + 5) 0 ≡ v5
    seven_5 =
        get_or-set_other (set (set (set (set (set (set p a v0) (a + 1) v1) (a + 2) v2) (a + 3) v3) (a + 4) v4) (a + 5) v5) (a + 6) (a + 5) v6 0 (omega arith)
        ∙ get_or-set_same (set (set (set (set (set p a v0) (a + 1) v1) (a + 2) v2) (a + 3) v3) (a + 4) v4) (a + 5) v5 0 (simp length-set (omega arith))

    seven_6 : get_or (seven p a v0 v1 v2 v3 v4 v5 v6) (a + 6) 0 ≡ v6
    seven_6 =
        get_or-set_same (set (set (set (set (set (set p a v0) (a + 1) v1) (a + 2) v2) (a + 3) v3) (a + 4) v4) (a + 5) v5) (a + 6) v6 0 (simp length-set (omega arith))

-- from p to q the memo of slot i was written, and no other word has changed
record Written (p q : List ℕ) (i : ℕ) (m : Memo) : Type 0 where
  long : length q ≡ length p
  below : (w : ℕ) → w < 18432 + 8 * i → get_or q w 0 ≡ get_or p w 0
  behind : (w : ℕ) → 18432 + 8 * i + 7 ≤ w → get_or q w 0 ≡ get_or p w 0
  past : (n : ℕ) → 18432 + 8 * i + 7 ≤ n → drop n q ≡ drop n p
  width : (memo_of q i).width ≡ m.width
  way : (memo_of q i).way ≡ m.way
  begun_long : (memo_of q i).before.long ≡ m.before.long
  begun_space : (memo_of q i).before.space ≡ m.before.space
  rows : (memo_of q i).reached.rows ≡ m.reached.rows
  long_behind : (memo_of q i).reached.begun.long ≡ m.reached.begun.long
  space_behind : (memo_of q i).reached.begun.space ≡ m.reached.begun.space

abbrev memo_set : List ℕ → ℕ → Memo → List ℕ
memo_set p i m =
    seven p (18432 + 8 * i) m.width m.way m.before.long m.before.space m.reached.rows m.reached.begun.long m.reached.begun.space

written : (p : List ℕ) (i : ℕ) (m : Memo) → i < 2048 → 34816 ≤ length p → Written p (memo_set p i m) i m
written p i m l n =
    record {
      long = seven_long p (18432 + 8 * i) m.width m.way m.before.long m.before.space m.reached.rows m.reached.begun.long m.reached.begun.space;
      below = seven_below p (18432 + 8 * i) m.width m.way m.before.long m.before.space m.reached.rows m.reached.begun.long m.reached.begun.space;
      behind = seven_behind p (18432 + 8 * i) m.width m.way m.before.long m.before.space m.reached.rows m.reached.begun.long m.reached.begun.space;
      past = seven_past p (18432 + 8 * i) m.width m.way m.before.long m.before.space m.reached.rows m.reached.begun.long m.reached.begun.space;
      width = seven_0 p (18432 + 8 * i) m.width m.way m.before.long m.before.space m.reached.rows m.reached.begun.long m.reached.begun.space (omega arith);
      way = seven_1 p (18432 + 8 * i) m.width m.way m.before.long m.before.space m.reached.rows m.reached.begun.long m.reached.begun.space (omega arith);
      begun_long = seven_2 p (18432 + 8 * i) m.width m.way m.before.long m.before.space m.reached.rows m.reached.begun.long m.reached.begun.space (omega arith);
      begun_space = seven_3 p (18432 + 8 * i) m.width m.way m.before.long m.before.space m.reached.rows m.reached.begun.long m.reached.begun.space (omega arith);
      rows = seven_4 p (18432 + 8 * i) m.width m.way m.before.long m.before.space m.reached.rows m.reached.begun.long m.reached.begun.space (omega arith);
      long_behind = seven_5 p (18432 + 8 * i) m.width m.way m.before.long m.before.space m.reached.rows m.reached.begun.long m.reached.begun.space (omega arith);
      space_behind = seven_6 p (18432 + 8 * i) m.width m.way m.before.long m.before.space m.reached.rows m.reached.begun.long m.reached.begun.space (omega arith);
    }

module _ (c p q : List ℕ) (s k : ℕ) (m : Memo) (t : Kept c p s) (l : k < s) (h : Written p q (slot p k) m) where
  written_above : Above p q
  written_above =
      let o = t.store.table.order in
      let i = o.inside k l in
      let most = o.most in
      record { long = h.long; below = λ w b. h.below w (omega arith); past = h.past 34816 (omega arith) }

  written_here : Right m (piece c p k) → Tallied c q k
  written_here r =
      let o = t.store.table.order in
      let most = o.most in
      let x = tallied_of t k l in
      let e = above_piece c p q s t.store written_above k l in
      record {
        accepted = rw e (h.below (10240 + 2048 + k) (omega arith) ∙ x.accepted);
        rejected = rw e (h.below (14336 + 2048 + k) (omega arith) ∙ x.rejected);
        memo = rw (above_slot c p q s t.store written_above k l, e, h.width, h.way, h.begun_long, h.begun_space, h.rows, h.long_behind, h.space_behind) r;
      }

  written_others : (j : ℕ) → j < s → j ≢ k → Tallied c q j
  written_others j b ne =
      let o = t.store.table.order in
      let most = o.most in
      let apart : slot p j ≢ slot p k = λ e. ne (o.apart j k b l e) in
      above_tallied c p q s t.store written_above j b (h.below (10240 + 2048 + j) (omega arith)) (h.below (14336 + 2048 + j) (omega arith))
      (λ i d. elim (cases_lt (slot p j) (slot p k)) [
        | inl less ↦ h.below (18432 + 8 * slot p j + i) (omega arith)
        | inr more ↦ h.behind (18432 + 8 * slot p j + i) (omega arith)
      ])
      (tallied_of t j b)

  written_kept : Right m (piece c p k) → Kept c q s
  written_kept r =
      whole (above_store c p q s t.store written_above) (above_trees p q s h.long (λ w a b. h.below w (omega arith)) (trees_of t))
      (λ j b. elim (cases_eq j k) [ inl e ↦ rw e (written_here r) | inr ne ↦ written_others j b ne ])

module _ (c p : List ℕ) (s k : ℕ) (m : Memo) (t : Kept c p s) (l : k < s) where
  remembered : Written p (memo_set p (slot p k) m) (slot p k) m
  remembered =
      let o = t.store.table.order in
      let i = o.inside k l in
      let most = o.most in
      written p (slot p k) m (omega arith) (trees_of t).long

  pub remembered_above : Above p (memo_set p (slot p k) m)
  remembered_above = written_above c p _ s k m t l remembered

  pub remembered_kept : Right m (piece c p k) → Kept c (memo_set p (slot p k) m) s
  remembered_kept = written_kept c p _ s k m t l remembered
