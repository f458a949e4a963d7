-- A slice is lent on: a part of it for writing, and what stands before and behind that part for reading, for all the time that the slice has left.
use mathlib.Core.Path.{◌≡◌, refl, sym, ap, ◌∙◌}
use Prim.Native.Nat.{ℕ, ◌+◌, ◌-◌, ◌≤◌}
use native.Mathlib.Omega.{arith}
use mathlib.Core.List.{List, [], ◌∷◌, ◌++◌}
use lib.ListN.{length, take, drop as drop_list, take-append-drop, length-drop, length-append}
use seplogic.Ra.Ura.{Ura}
use mir.Syntax.{Lifetime}
use mir.Val.{Val}
use base.Logic.{SProp, ent, sep, ex, emp, id⊢}
use base.Fraction.{full_share}
use base.Stored.{coded_list}
use base.Fml.{Lft, GName, Share, ftrue, fsep, fseps, flft, fobs, fbor, fhide, Incl-refl}
use types.Logic.{Logic, sem}
use types.Kit.{‵, ◌⊛◌, raw, later, some, ◌$◌, ◌∵◌, !, qed, move, keep, drop, use0, use1, use2, split, split3, pick, fsplit, fsplit3, fjoin, feq_i, feq_l, rewrite, show, await, group, updating, now as at_once, done}
use types.SemTy.{cells, Arr, Body}
use types.Follow.{takes_beside}
use types.Mut.{open_ref}
use denote.RattleType.{RattleType}
use denote.Memory.{mem, shared_of}
use denote.Shadow.{pure_i}
use denote.Shares.{SharesAs, shares_each}
use denote.Index.{row, whole_in, whole_out}
use denote.Array.{Array}
use denote.Slice.{MutSlice, ShrSlice, Room, slice_val, shr_slice_at, elements_shared}
use denote.Steps.{nothing}
use denote.Follow.{follows}
use denote.FollowSlice.{heres_id, slice_of}
use borrow.Table.Elements.{at, cut_app, join_app, length-take-le}

module _ {X : Type 0} (xs : List X) (start n : ℕ) where
  abbrev pub front : List X
  front = take start xs

  abbrev pub part : List X
  part = take n (drop_list start xs)

  abbrev pub back : List X
  back = drop_list n (drop_list start xs)

-- a list with a part written over
abbrev pub wrote : {X : Type 0} → List X → ℕ → List X → List X
wrote xs start ws = take start xs ++ (ws ++ drop_list (length ws) (drop_list start xs))

module _ {M : Type 1} {𝓤 : Ura M} (𝓛 : Logic 𝓤) (ℓ : Lifetime) (κ : Lft) (q : Share) (b : ℕ) (R : RattleType) (shares : SharesAs 𝓛 R (shared_of R) κ) where
  open 𝓛 use {H, A}

  -- elements that are borrowed become a slice for reading
  pub shares_row : (ys : List R.Denot) (c : ℕ) → Room R (length ys)
      → ent 𝓤 (sep 𝓤 (A.bor κ (row R full_share ys b c)) (A.lft κ q))
      (H.⇛ (sep 𝓤 (sem 𝓛 ((ShrSlice ℓ κ R).own_val (record { ref_ptr = (b, c); now = ys }) (slice_val (b, c) (length ys) ∷ []))) (A.lft κ q)))
  shares_row ys c rm =
      qed 𝓛 (‵ (fbor κ (row R full_share ys b c)) ∷ ‵ (flft κ q) ∷ []) ∵ updating ! $
      use2 𝓛 (later (‵ (fhide (elements_shared R ys b c κ)) ⊛ ‵ (flft κ q))) (shares_each 𝓛 R (shared_of R) κ shares ys κ ((κ, q) ∷ []) b c (Incl-refl κ) (Incl-refl κ)) $ await ! tt $ split ! $
      pure_i ! (shr_slice_at R (record { ref_ptr = (b, c); now = ys }) (slice_val (b, c) (length ys) ∷ [])) (tt, (tt, tt)) (refl, rm) $ fjoin ! $ at_once ! $ done !

  module _ (o : ℕ) (γ : GName) (xs : List R.Denot) (start n p r : ℕ) (within : start + n ≤ length xs) (on : at o (mem R).size start ≡ p) (past : at p (mem R).size n ≡ r) where
    cut : xs ≡ (front xs start n) ++ ((part xs start n) ++ (back xs start n))
    cut = sym (ap (λ (l : List R.Denot). (front xs start n) ++ l) (take-append-drop n (drop_list start xs)) ∙ take-append-drop start xs)

    pub length-front : length (front xs start n) ≡ start
    length-front = length-take-le start xs (omega (arith, within))

    length-rest : length (drop_list start xs) ≡ length xs - start
    length-rest = length-drop start xs

    pub length-part : length (part xs start n) ≡ n
    length-part = length-take-le n (drop_list start xs) (omega (arith, within, length-rest))

    pub length-back : length (back xs start n) ≡ length xs - (start + n)
    length-back = omega (arith, within, length-drop n (drop_list start xs), length-rest)

    length-wrote : (ws : List R.Denot) → length ws ≡ n → length (wrote xs start ws) ≡ length xs
    length-wrote ws e =
        omega (
          arith,
          within,
          e,
          length-front,
          length-rest,
          length-append (take start xs) (ws ++ drop_list (length ws) (drop_list start xs)),
          length-append ws (drop_list (length ws) (drop_list start xs)),
          length-drop {A = R.Denot} (length ws) (drop_list start xs),
        )

    -- what is lent: the part for writing, and the two sides for reading
    abbrev pub Lent : GName → SProp 𝓤
    Lent δ = sep 𝓤 (sem 𝓛 ((MutSlice ℓ κ R).own_val (record { ref_ptr = (b, p); ghost_name = δ; now = part xs start n }) (slice_val (b, p) (length (part xs start n)) ∷ [])))
        (sep 𝓤 (sem 𝓛 ((ShrSlice ℓ κ R).own_val (record { ref_ptr = (b, o); now = front xs start n }) (slice_val (b, o) (length (front xs start n)) ∷ [])))
        (sep 𝓤 (sem 𝓛 ((ShrSlice ℓ κ R).own_val (record { ref_ptr = (b, r); now = back xs start n }) (slice_val (b, r) (length (back xs start n)) ∷ [])))
        (sep 𝓤 (A.lft κ q) (sem 𝓛 (follows (Array R 0) (Array R 0) γ δ (wrote xs start))))))

    put_back : (ws : List R.Denot) → ent 𝓤 (sep 𝓤 (sem 𝓛 ((Arr (mem R) (length (part xs start n))).own_at ws b p))
        (sep 𝓤 (sem 𝓛 (fseps (row R full_share (front xs start n) b o ∷ row R full_share (back xs start n) b r ∷ []))) (emp 𝓤))) (sem 𝓛 ((Arr (mem R) (length xs)).own_at (wrote xs start ws) b o))
    unfolding fseps
    put_back ws =
        qed 𝓛 (‵ ((Arr (mem R) (length (part xs start n))).own_at ws b p) ∷ ‵ (fsep (row R full_share (front xs start n) b o) (fsep (row R full_share (back xs start n) b r) ftrue)) ∷ raw (emp 𝓤) ∷ []) ∵
        fsplit ! $ feq_l ! (λ e. move ! (1 ∷ []) $ fsplit3 ! $ move ! (1 ∷ 3 ∷ []) $
        use1 𝓛 (‵ (cells (mem R) (back xs start n) b r)) (whole_in 𝓛 R (back xs start n) b r) $
        rewrite ! 0 (λ (k : ℕ). ‵ (cells (mem R) (back xs start n) b k)) (sym (ap (λ (k : ℕ). at p (mem R).size k) (e ∙ length-part) ∙ past)) refl $
        rewrite ! 0 (λ (k : ℕ). ‵ (cells (mem R) (drop_list k (drop_list start xs)) b (at p (mem R).size (length ws)))) (sym (e ∙ length-part)) refl $
        move ! (1 ∷ 0 ∷ []) $
        use2 𝓛 (‵ (cells (mem R) (ws ++ drop_list (length ws) (drop_list start xs)) b p)) (join_app 𝓛 (mem R) ws (drop_list (length ws) (drop_list start xs)) b p) $
        rewrite ! 0 (λ (k : ℕ). ‵ (cells (mem R) (ws ++ drop_list (length ws) (drop_list start xs)) b k)) (sym (ap (at o (mem R).size) length-front ∙ on)) refl $
        move ! (1 ∷ []) $ use1 𝓛 (‵ (cells (mem R) (front xs start n) b o)) (whole_in 𝓛 R (front xs start n) b o) $ move ! (0 ∷ 1 ∷ []) $
        use2 𝓛 (‵ (cells (mem R) (wrote xs start ws) b o)) (join_app 𝓛 (mem R) (front xs start n) (ws ++ drop_list (length ws) (drop_list start xs)) b o) $ keep ! (0 ∷ []) $
        feq_i ! ℕ (length (wrote xs start ws)) (length xs) (length-wrote ws (e ∙ length-part)) $ fjoin ! $ done !)

    pub lends_part : Room R (length (front xs start n)) → Room R (length (part xs start n)) → Room R (length (back xs start n)) → (vs : List Val)
        → ent 𝓤 (sep 𝓤 (sem 𝓛 ((MutSlice ℓ κ R).own_val (record { ref_ptr = (b, o); ghost_name = γ; now = xs }) vs)) (A.lft κ q)) (H.⇛ (ex 𝓤 Lent))
    unfolding fseps
    lends_part front_fits part_fits back_fits vs =
        qed 𝓛 (‵ ((MutSlice ℓ κ R).own_val (record { ref_ptr = (b, o); ghost_name = γ; now = xs }) vs) ∷ ‵ (flft κ q) ∷ []) ∵ updating ! $ fsplit3 ! $ drop ! $
        rewrite ! 0 (λ (l : List R.Denot). ‵ (fobs γ ((coded_list R.coded).code l))) (heres_id R xs) refl $ open_ref ! tt (Arr (mem R) (length xs)) {b = b} {o = o} $ fsplit ! $ drop ! $
        -- [the elements; the open borrow; obs; auth]
        rewrite ! 0 (λ (l : List R.Denot). ‵ (cells (mem R) l b o)) cut refl $
        use1 𝓛 (‵ (cells (mem R) (front xs start n) b o) ⊛ ‵ (cells (mem R) ((part xs start n) ++ (back xs start n)) b (at o (mem R).size (length (front xs start n))))) (cut_app 𝓛 (mem R) (front xs start n) ((part xs start n) ++ (back xs start n)) b o) $ split ! $
        use1 𝓛 (‵ (row R full_share (front xs start n) b o)) (whole_out 𝓛 R (front xs start n) b o) $ move ! (1 ∷ []) $
        rewrite ! 0 (λ (k : ℕ). ‵ (cells (mem R) ((part xs start n) ++ (back xs start n)) b k)) (ap (at o (mem R).size) length-front ∙ on) refl $
        use1 𝓛 (‵ (cells (mem R) (part xs start n) b p) ⊛ ‵ (cells (mem R) (back xs start n) b (at p (mem R).size (length (part xs start n))))) (cut_app 𝓛 (mem R) (part xs start n) (back xs start n) b p) $ split ! $ move ! (1 ∷ []) $
        rewrite ! 0 (λ (k : ℕ). ‵ (cells (mem R) (back xs start n) b k)) (ap (at p (mem R).size) length-part ∙ past) refl $
        use1 𝓛 (‵ (row R full_share (back xs start n) b r)) (whole_out 𝓛 R (back xs start n) b r) $
        -- [the back; the part; the front; the open borrow; obs; auth]
        nothing ! $ move ! (1 ∷ 0 ∷ []) $ fjoin ! $ move ! (2 ∷ 0 ∷ []) $ fjoin ! $ move ! (1 ∷ []) $ feq_i ! ℕ (length (part xs start n)) (length (part xs start n)) refl $ fjoin ! $
        use0 𝓛 (raw (emp 𝓤)) (id⊢ 𝓤 (emp 𝓤)) $ move ! (3 ∷ 4 ∷ 5 ∷ 1 ∷ 2 ∷ 0 ∷ []) $ group ! 6 $
        use1 𝓛 (later (some (λ (δ : GName). ‵ (fobs δ ((coded_list R.coded).code (part xs start n))) ⊛ ‵ (fbor κ (Body (Arr (mem R) (length (part xs start n))) b p δ)) ⊛ ‵ (flft κ q) ⊛ ‵ (follows (Array R 0) (Array R 0) γ δ (wrote xs start))
        ⊛ ‵ (fbor κ (row R full_share (front xs start n) b o)) ⊛ ‵ (fbor κ (row R full_share (back xs start n) b r)) ⊛ ‵ ftrue)))
        (takes_beside 𝓛 (Arr (mem R) (length xs)) (Arr (mem R) (length (part xs start n))) (wrote xs start) κ q b o b p γ (row R full_share (front xs start n) b o ∷ row R full_share (back xs start n) b r ∷ []) (emp 𝓤) put_back
        ((coded_list R.coded).code xs) ((coded_list R.coded).code xs) (part xs start n)) $ await ! tt $ pick ! (λ δ. split3 ! $
        use2 𝓛 (‵ ((MutSlice ℓ κ R).own_val (record { ref_ptr = (b, p); ghost_name = δ; now = part xs start n }) (slice_val (b, p) (length (part xs start n)) ∷ []))) (slice_of 𝓛 R ℓ κ b p δ (part xs start n) part_fits) $
        move ! (1 ∷ []) $ split3 ! $ move ! (2 ∷ []) $ split3 ! $
        -- [the front's borrow; the back's; nothing; the token; what the slice ends as; the part]
        move ! (0 ∷ 3 ∷ []) $ use2 𝓛 (later (‵ ((ShrSlice ℓ κ R).own_val (record { ref_ptr = (b, o); now = front xs start n }) (slice_val (b, o) (length (front xs start n)) ∷ [])) ⊛ ‵ (flft κ q))) (shares_row (front xs start n) o front_fits) $ await ! tt $ split ! $
        move ! (2 ∷ 1 ∷ []) $ use2 𝓛 (later (‵ ((ShrSlice ℓ κ R).own_val (record { ref_ptr = (b, r); now = back xs start n }) (slice_val (b, r) (length (back xs start n)) ∷ [])) ⊛ ‵ (flft κ q))) (shares_row (back xs start n) r back_fits) $ await ! tt $ split ! $
        at_once ! $ show ! Lent δ $ keep ! (5 ∷ 2 ∷ 0 ∷ 1 ∷ 4 ∷ []) $ done !)
