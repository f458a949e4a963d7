-- What is known of streams that tell their bytes.
use Rattle.std.proofs.Common.{◌≡◌, ℕ, ◌+◌, ◌≤◌, List, [], length, drop, Option, Some, None, sym, ◌∙◌, subst, arith}
use Rattle.pim_io.specs.Outside.{Rose, Told}
use Rattle.pim_top.specs.Reads.{IsOver, IsReadBy, IsWithin, OfBytes, OfLimit, Tells}
use Rattle.pim_top.specs.Streams.{HasFailed, IsOverrun, Stream}

-- what follows of what holds of them
pub told-map : (a b : Option (List ℕ)) (P Q : List ℕ → List ℕ → Type 0) → ((x y : List ℕ) → P x y → Q x y) → Told a b P → Told a b Q
told-map None b P Q f h = tt
told-map (Some x) None P Q f h = absurd h
told-map (Some x) (Some y) P Q f h = f x y h

pub told-both : (a b : Option (List ℕ)) (P Q R : List ℕ → List ℕ → Type 0) → ((x y : List ℕ) → P x y → Q x y → R x y) → Told a b P → Told a b Q → Told a b R
told-both None b P Q R f h k = tt
told-both (Some x) None P Q R f h k = absurd h
told-both (Some x) (Some y) P Q R f h k = f x y h k

-- what holds of the bytes that are told
pub told-of : (a b : Option (List ℕ)) (x : List ℕ) (P : List ℕ → List ℕ → Type 0) → a ≡ Some x → Told a b P → (y : List ℕ) × P x y
told-of a b x P e h = by b (subst (λ (o : Option (List ℕ)). Told o b P) e h)
  where
    by : (b : Option (List ℕ)) → Told (Some x) b P → (y : List ℕ) × P x y
    by None h = absurd h
    by (Some y) h = (y, h)

-- the bytes that were read are those that were told
pub same-bytes : (limit : Option ℕ) (s : Stream) (read told : List ℕ) → IsReadBy limit s read → Tells limit s told → read ≡ told
same-bytes None s read told r t = r.0 ∙ sym t
same-bytes (Some limit) s read told r t =
    let w = told-of s.before s.now told (λ b n. (b ≡ read) × (n ≡ [])) t r.all in
    sym w.1.0

-- they are within the limit, and no fault was counted
pub read-within : (limit : Option ℕ) (s : Stream) (read : List ℕ) → IsReadBy limit s read → IsWithin limit read
read-within None s read r = tt
read-within (Some limit) s read r = r.fits

pub read-steady : (limit : Option ℕ) (s : Stream) (read : List ℕ) → IsReadBy limit s read → s.faults_now ≡ s.faults
read-steady None s read r = r.1.steady
read-steady (Some limit) s read r = r.steady

-- what holds of them, where they are told
pub of-bytes : (limit : Option ℕ) (s : Stream) (read : List ℕ) (P : List ℕ → Type 0) → IsReadBy limit s read → P read → OfBytes limit s P
of-bytes None s read P r h = subst P r.0 h
of-bytes (Some limit) s read P r h =
    told-map s.before s.now (λ b n. (b ≡ read) × (n ≡ [])) (λ b n. (n ≡ []) × (length b ≤ limit) × P b)
    (λ b n e. (e.1, subst (λ (x : List ℕ). length x ≤ limit) (sym e.0) r.fits, subst P (sym e.0) h))
    r.all

-- a source that was overrun has more bytes than the limit
pub over-told : (limit : Option ℕ) (s : Stream) (told : List ℕ) → OfLimit limit (IsOverrun s) → Tells limit s told → IsOver limit told
over-told None s told o t = o
over-told (Some limit) s told o t =
    let w = told-of s.before s.now told (λ b n. (limit + 1 ≤ length b) × (n ≡ drop (limit + 1) b)) t o.more in
    let h = w.1.0 in
    omega arith

-- a source that failed has counted it
pub failed-rose : (limit : Option ℕ) (s : Stream) → OfLimit limit (HasFailed s) → Rose s.faults s.faults_now
failed-rose None s h = absurd h
failed-rose (Some limit) s h = h.rose
