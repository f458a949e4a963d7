-- `part_mut` lends a part of a list and shares the two sides of it: the list's words are lent as a slice, which is then lent on.
use Rattle.std.proofs.Common.{◌≡◌, ℕ, ◌+◌, ◌-◌, ◌*◌, ◌^◌, ◌<◌, ◌≤◌, List, [], ◌∷◌, length, take, refl, sym, ap, ◌∙◌, w64, MutBor, Bor, vec_len, arith}
use Rattle.std.proofs.lemmas.List.{drop-drop}
use lib.ListN.{drop as drop_list}
use Rattle.std.proofs.raw_atomic.Walks.{proved}
use base.Fraction.{full_share}
use base.Logic.{emp, id⊢}
use base.Fml.{GName, ftrue, flft}
use mir.Syntax.{named}
use mir.Val.{Val, vint, vstruct, vcons, vnil}
use contract.Monad.{fact, fact_i}
use contract.Running.{tables}
use types.Kit.{‵, raw, ◌⊛◌, some, later, at_ret, ◌$◌, ◌∵◌, !, qed, move, keep, drop, use0, use1, use2, split, split3, join, fjoin, fpack, feq_i, pick, await, rewrite, suffices, frame, done}
use types.Part.{whole, sub, agg}
use types.Run.{enter, of_opd, addr, lit, bin, fld, hop, from, stop, no_more, and_then, first, blocks, exec, returns}
use types.ByLocal.{alloc_all, pass_all, free_all, look_at, look_in_at, get, get_in, through, sets, sets_last, lands_as, env}
use denote.Builtin.{u64, usize}
use denote.Array.{Array}
use denote.Copied.{uint_Copied}
use denote.Exit.{yes, no}
use denote.Follow.{follows, follows_then}
use denote.Laws.{Is, shows}
use denote.Plain.{uint_vals, uint_Tells}
use denote.RattleType.{RattleType, Valss, owns}
use denote.Ref.{MutRef, mut_vals, mut_Tells}
use denote.Signature.{plain, mut_ref_to}
use denote.Slice.{MutSlice, ShrSlice, Room, slice_val}
use denote.Steps.{nothing, heard, only, peeks}
use denote.Struct.Declared.{shape}
use denote.Struct.Struct.{within as laid_within}
use denote.Struct.Tuple.{tuple_type}
use denote.Triple.Call.{calls_at}
use denote.Triple.Clauses.{lasts}
use denote.Triple.Spec.{triple_of}
use denote.Triple.Table.{framed}
use denote.Triple.Walked.{Stays, stay_dropped, Goes-dropped, Goes-spent_ref, walk_of, ends_at}
use borrow.Table.Elements.{at, at_mul}
use Rattle.std.specs.Vec.{with_items}
use Rattle.pim_lanes.specs.inner.Parts.{words_row}
use Rattle.pim_lanes.proofs.PartLends.{lends_part, front, part, back, wrote, length-front, length-part, length-back}
use Rattle.pim_lanes.specs.contracts.parts.part_mut as f
use Rattle.pim_lanes.proofs.parts.part_mut.Statement.{statement}
use Rattle.pim_lanes.proofs.parts.part_mut.Code as code
use Rattle.pim_lanes.specs.contracts.parts.words_mut as g
use Rattle.pim_lanes.proofs.parts.words_mut.Met.{met}

abbrev stayed : Stays f.ended.signature.params f.ended.kept
stayed = (stay_dropped (mut_ref_to (0 ∷ []) tt (plain (λ _. words_row))) no, (stay_dropped (plain (λ _. usize)) yes, (stay_dropped (plain (λ _. usize)) yes, tt)))

pub part_mut_spec : {M : Type 1} → statement M
part_mut_spec 𝓤 𝓛 𝓜 𝓡 wired =
    let c = f.clauses 𝓛 𝓜.mem 𝓡.returns in let W = walk_of 𝓛 f.ended stayed c in let 𝓣 = tables 𝓤 𝓛.H 𝓜 𝓡 𝓡.env in
    let goes = Goes-dropped 𝓛 1 (plain (λ _. usize)) yes (λ κs x w. refl) in
    proved 𝓛 f.ended stayed c 𝓜 𝓡 (Goes-spent_ref 𝓛 1 (0 ∷ []) tt (plain (λ _. words_row)), (goes, (goes, tt)))
    f.Key.name code.function (code.unfolded 𝓤 𝓛.H 𝓜 𝓡 wired)
    (λ κs. (mut_vals, (uint_vals w64, (uint_vals w64, tt)))) (λ κs. (mut_Tells (named 0) κs.0 words_row, (uint_Tells w64, (uint_Tells w64, tt)))) (λ κs qs bounds a _ are.
    let κ = κs.0 in let q = qs.0 in let list = a.0 in let start = a.1.0 in let end = a.1.1.0 in
    let vals : List Val × (List Val × (List Val × Unit {0})) = (mut_vals list, (vint w64 start ∷ [], (vint w64 end ∷ [], tt))) in
    let y : W.Ghost = ((κs, qs, bounds, a, vals), tt) in
    qed 𝓛 (((‵ (flft κ q) ⊛ ‵ ftrue) ⊛ (‵ ((MutRef (named 0) κ words_row).own_val list (mut_vals list)) ⊛ ‵ (owns (usize ∷ usize ∷ []) a.1 vals.1)))
    ∷ (raw (fact 𝓤 (start ≤ end)) ⊛ raw (fact 𝓤 (end ≤ vec_len list.now))) ∷ []) ∵
    move ! (1 ∷ []) $ split ! $ heard ! (start ≤ end) (λ ordered. heard ! (end ≤ vec_len list.now) (λ inside.
    split ! $ split ! $ move ! (2 ∷ []) $ split ! $ keep ! (0 ∷ 2 ∷ []) $
    -- [the list; the token]
    enter ! _ _ _ _ _ $ alloc_all ! (λ l. pass_all ! refl ((tt, tt), ((tt, record { fits = are.1.0.1 }), ((tt, record { fits = are.1.1.0.1 }), tt))) $
    sets ! (addr ! (through ! refl (stop !))) refl (tt, tt) $
    let G = triple_of 𝓛 g.signature (g.spec 𝓛 𝓜.mem 𝓡.returns) in
    let z : G.Ghost = (((κ, tt), (q, tt), tt, (list, tt), (mut_vals list, tt)), tt) in
    nothing ! $ move ! (1 ∷ 0 ∷ []) $ join ! $ nothing ! $ move ! (2 ∷ 0 ∷ []) $ join ! $ join ! $
    nothing ! $ move ! (1 ∷ 0 ∷ []) $ use2 𝓛 (raw (G.pre z)) (id⊢ 𝓤 _) $
    calls_at ! (framed 𝓤 𝓛.H 𝓜 (tables 𝓤 𝓛.H 𝓜 𝓡 𝓡.env)) G (met 𝓤 𝓛 𝓜 𝓡 (code.calls-pim_lanes::parts::words_mut 𝓡.env wired)) z
    (and_then ! (get ! refl) (no_more !)) (λ v.
    use1 𝓛 (later (some (λ (s : MutBor (List ℕ)). ((‵ (flft κ q) ⊛ ‵ ftrue) ⊛ ‵ ((MutSlice (named 0) κ u64).own_val s (v ∷ []))) ⊛
    some (λ (ws : Unit {0} × Unit {0}). ‵ (lasts g.ended z.0.0 z.0.3 ws) ⊛ (‵ (follows words_row (Array u64 0) list.ghost_name s.ghost_name (with_items list.now)) ⊛ raw (fact 𝓤 (s.now ≡ list.now.items))))))) (id⊢ 𝓤 _) $
    await ! tt $ pick ! (λ s. split ! $ split ! $ split ! $ move ! (3 ∷ []) $ pick ! (λ ws. split ! $ drop ! $ split ! $ move ! (1 ∷ []) $ heard ! (s.now ≡ list.now.items) (λ same.
    -- [what the list ends as; the token; nothing; the slice]
    move ! (3 ∷ []) $ peeks ! (MutSlice (named 0) κ u64) (Is (MutSlice (named 0) κ u64)) (shows 𝓛 (MutSlice (named 0) κ u64)) s (v ∷ []) (λ is.
    let b : ℕ = s.ref_ptr.0 in let o : ℕ = s.ref_ptr.1 in let γ : GName = s.ghost_name in let xs : List ℕ = s.now in let count : ℕ = length xs in let n : ℕ = end - start in
    let room : Room u64 count = is.0.1 in
    let long : end ≤ count = omega (arith, inside, list.now.ok.0, ap length same) in
    let start_fits : start * 8 < 2 ^ 64 = omega (arith, room.1, ordered, long) in
    let end_fits : end * 8 < 2 ^ 64 = omega (arith, room.1, long) in
    let start_room : start * 8 < 2 ^ 63 = omega (arith, room.1, ordered, long) in
    let part_room : n * 8 < 2 ^ 63 = omega (arith, room.1, long) in
    let back_room : (count - end) * 8 < 2 ^ 63 = omega (arith, room.1) in
    let part_fits : n < 2 ^ 64 = omega (arith, room.0, long) in
    let back_fits : count - end < 2 ^ 64 = omega (arith, room.0) in
    lands_as ! (ap only is.0.0) refl (tt, (tt, (record { fits = room.0 }, tt))) $
    sets ! (of_opd ! (get_in ! (fld ! refl (stop !)) (sub ! 1 refl (whole !)))) refl (tt, record { fits = room.0 }) $
    sets ! (addr ! (from ! (fld ! refl (hop ! (look_in_at ! 4 (sub ! 0 refl (whole !))) (stop !))))) refl (tt, tt) $
    first ! $ blocks ! $
    sets ! (bin ! (get ! refl) (lit ! tt) (record { fits = start_fits })) refl (tt, record { fits = start_fits }) $
    sets ! (bin ! (get ! refl) (get ! refl) tt) refl (tt, tt) $
    sets ! (bin ! (get ! refl) (get ! refl) ordered) refl (tt, record { fits = part_fits }) $
    sets ! (agg ! (and_then ! (get ! refl) (and_then ! (get ! refl) (no_more !)))) refl (tt, (tt, (record { fits = part_fits }, tt))) $
    sets ! (agg ! (and_then ! (get ! refl) (and_then ! (get ! refl) (no_more !)))) refl (tt, (tt, (record { fits = are.1.0.1 }, tt))) $
    sets ! (bin ! (get ! refl) (lit ! tt) (record { fits = end_fits })) refl (tt, record { fits = end_fits }) $
    sets ! (bin ! (get ! refl) (get ! refl) tt) refl (tt, tt) $
    sets ! (bin ! (get ! refl) (get ! refl) long) refl (tt, record { fits = back_fits }) $
    sets ! (agg ! (and_then ! (get ! refl) (and_then ! (get ! refl) (no_more !)))) refl (tt, (tt, (record { fits = back_fits }, tt))) $
    sets_last ! (agg ! (and_then ! (get ! refl) (and_then ! (get ! refl) (and_then ! (get ! refl) (no_more !))))) refl
    (tt, ((tt, (record { fits = part_fits }, tt)), ((tt, (record { fits = are.1.0.1 }, tt)), ((tt, (record { fits = back_fits }, tt)), tt)))) $
    exec ! 𝓣.C 𝓣.Λ (env code.Mir.locals l) code.Mir.t-6 (at_ret _ (W.post y)) $
    sets ! (of_opd ! (get ! refl)) refl (tt, ((tt, (record { fits = part_fits }, tt)), ((tt, (record { fits = are.1.0.1 }, tt)), ((tt, (record { fits = back_fits }, tt)), tt)))) $
    -- [the slice; what the list ends as; the token; nothing]
    let p : ℕ = start * 8 + o in let r : ℕ = end * 8 + o in
    let within : start + n ≤ count = omega (arith, ordered, long) in
    let on : at o 8 start ≡ p = at_mul o 8 start in
    let past : at p 8 n ≡ r = at_mul p 8 n ∙ omega (arith, ordered) in
    let shared = (uint_Copied 𝓛 w64).shares full_share κ in
    let fl : length (front xs start n) ≡ start = length-front 𝓛 (named 0) κ q b u64 shared o γ xs start n p r within on past in
    let pl : length (part xs start n) ≡ n = length-part 𝓛 (named 0) κ q b u64 shared o γ xs start n p r within on past in
    let bl : length (back xs start n) ≡ count - end = length-back 𝓛 (named 0) κ q b u64 shared o γ xs start n p r within on past ∙ ap (λ (k : ℕ). count - k) (omega (arith, ordered)) in
    move ! (0 ∷ 2 ∷ []) $
    use2 𝓛 (later (some (λ (δ : GName).
    ‵ ((MutSlice (named 0) κ u64).own_val (record { ref_ptr = (b, p); ghost_name = δ; now = part xs start n }) (slice_val (b, p) (length (part xs start n)) ∷ []))
    ⊛ ‵ ((ShrSlice (named 0) κ u64).own_val (record { ref_ptr = (b, o); now = front xs start n }) (slice_val (b, o) (length (front xs start n)) ∷ []))
    ⊛ ‵ ((ShrSlice (named 0) κ u64).own_val (record { ref_ptr = (b, r); now = back xs start n }) (slice_val (b, r) (length (back xs start n)) ∷ []))
    ⊛ ‵ (flft κ q) ⊛ ‵ (follows (Array u64 0) (Array u64 0) γ δ (wrote xs start)))))
    (lends_part 𝓛 (named 0) κ q b u64 shared o γ xs start n p r within on past (omega (arith, fl, room.0, within), omega (arith, fl, start_room)) (omega (arith, pl, part_fits), omega (arith, pl, part_room)) (omega (arith, bl, back_fits), omega (arith, bl, back_room)) (v ∷ [])) $
    await ! tt $ pick ! (λ δ. split3 ! $ move ! (2 ∷ []) $ split3 ! $
    -- [the back; the token; what the slice ends as; the part; the front; what the list ends as; nothing]
    move ! (5 ∷ 2 ∷ []) $
    use2 𝓛 (‵ (follows words_row (Array u64 0) list.ghost_name δ (λ (w : List ℕ). with_items list.now (wrote xs start w))))
    (follows_then 𝓛 words_row (Array u64 0) (Array u64 0) (with_items list.now) (wrote xs start) list.ghost_name γ δ) $
    rewrite ! 0 (λ (ys : List ℕ). ‵ (follows words_row (Array u64 0) list.ghost_name δ (λ (w : List ℕ). with_items list.now (wrote ys start w)))) same refl $
    -- [what the list ends as; the back; the token; the part; the front; nothing]
    let one : MutBor (List ℕ) = record { ref_ptr = (b, p); ghost_name = δ; now = part xs start n } in
    let two : Bor (List ℕ) = record { ref_ptr = (b, o); now = front xs start n } in
    let three : Bor (List ℕ) = record { ref_ptr = (b, r); now = back xs start n } in
    let types : List RattleType = MutSlice (named 0) κ u64 ∷ ShrSlice (named 0) κ u64 ∷ ShrSlice (named 0) κ u64 ∷ [] in
    let out : ℕ → ℕ → ℕ → Val = λ i j k. vstruct (vcons (slice_val (b, p) i) (vcons (slice_val (b, o) j) (vcons (slice_val (b, r) k) vnil))) in
    move ! (1 ∷ 5 ∷ []) $ fjoin ! $ move ! (4 ∷ 0 ∷ []) $ fjoin ! $ move ! (3 ∷ 0 ∷ []) $ fjoin ! $
    feq_i ! (List Val) (out n start (count - end) ∷ []) (out (length (part xs start n)) (length (front xs start n)) (length (back xs start n)) ∷ []) (λ k. out (sym pl k) (sym fl k) (sym bl k) ∷ []) $ fjoin ! $
    fpack ! (Valss types) (laid_within (shape (tuple_type types)) (one, (two, (three, tt))) (out n start (count - end) ∷ []))
    (slice_val (b, p) (length (part xs start n)) ∷ [], (slice_val (b, o) (length (front xs start n)) ∷ [], (slice_val (b, r) (length (back xs start n)) ∷ [], tt))) $
    returns ! (look_at ! 0 refl) $ free_all ! refl $ keep ! (0 ∷ 2 ∷ 1 ∷ []) $
    suffices ! _ (ends_at 𝓛 f.ended stayed c y (out n start (count - end)) (one, two, three) (tt, (tt, (tt, tt))) (tt, (tt, (tt, tt)))) $
    -- [the result; the token; what the list ends as]
    nothing ! $ nothing ! $ fjoin ! $ nothing ! $ fjoin ! $ nothing ! $ fjoin ! $ join ! $
    nothing ! $ move ! (2 ∷ 0 ∷ []) $ join ! $ join ! $ frame ! $
    use0 𝓛 (raw (fact 𝓤 (three.now ≡ drop_list end list.now.items))) (fact_i 𝓤 (three.now ≡ drop_list end list.now.items) (emp 𝓤) (drop-drop n start xs ∙ ap (λ (k : ℕ). drop_list k xs) (omega (arith, ordered)) ∙ ap (λ (ys : List ℕ). drop_list end ys) same)) $
    use0 𝓛 (raw (fact 𝓤 (two.now ≡ take start list.now.items))) (fact_i 𝓤 (two.now ≡ take start list.now.items) (emp 𝓤) (ap (take start) same)) $ join ! $
    use0 𝓛 (raw (fact 𝓤 (one.now ≡ take n (drop_list start list.now.items)))) (fact_i 𝓤 (one.now ≡ take n (drop_list start list.now.items)) (emp 𝓤) (ap (λ (ys : List ℕ). take n (drop_list start ys)) same)) $ join ! $
    move ! (1 ∷ 0 ∷ []) $ done !))))))))))
