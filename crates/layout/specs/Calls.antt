-- The outward calls on a slice of words: what each answers and what the slice then holds, refused calls too.
-- Everything but the verdict on the image is computed. Any calls: QueueCalls; ours, by any right judge: calls_by.
-- Assumes nothing.
use Rattle.std.specs.Prelude.{ℕ, cond, ◌||◌, List, ◌++◌, ◌≡◌, ltb, leb, eqb, length, drop}
use Rattle.rules.specs.Pair.{IDS, KEYS, pair_of, levels}
use Rattle.rules.specs.Update.{Held, absent, held, Update, decrease, delete}
use Rattle.rules.specs.Queue.{fresh, updated, delete_min}
use Rattle.layout.specs.Image.{need, lay_out}
use Rattle.layout.specs.SoundImage.{n_of, heap_of, laid_back, Verdict, too_short, not_sound, good, Judged}

-- "answer only that they were taken"; "A refusal returns its number alone"; a pair with its reach; empty, with its reach
pub data Reply : Type 0 where
  taken : Reply
  refused : ℕ → Reply
  found : ℕ → ℕ → Reply
  empty : ℕ → Reply

-- a reply, and the slice's later words
pub record Outcome : Type 0 where
  pub reply : Reply
  pub image : List ℕ

-- "and writes nothing"
abbrev pub refuse : ℕ → List ℕ → Outcome
refuse k ws = record { reply = refused k; image = ws }

-- "making a fresh image" asks nothing of the old words
unfoldable pub fresh_call : ℕ → List ℕ → Outcome
fresh_call n ws =
    cond (eqb n 0 || ltb IDS n) (refuse 1 ws)
    (cond (ltb (length ws) (need n)) (refuse 2 ws)
    (record { reply = taken; image = lay_out n (fresh (levels n)) ++ drop (need n) ws }))

-- a call on an image, which is refused 2 or 3, or goes on
abbrev pub judged_call : Verdict → List ℕ → Outcome → Outcome
judged_call too_short ws on = refuse 2 ws
judged_call not_sound ws on = refuse 3 ws
judged_call good ws on = on

unfoldable pub push_call : List ℕ → Update → Outcome
push_call ws u = record { reply = taken; image = laid_back ws (updated (n_of ws) u (heap_of ws)) }

unfoldable pub decrease_call : Verdict → List ℕ → ℕ → ℕ → Outcome
decrease_call v ws id key =
    judged_call v ws
    (cond (leb (n_of ws) id) (refuse 4 ws)
    (cond (leb KEYS key) (refuse 5 ws)
    (push_call ws (decrease (pair_of key id)))))

unfoldable pub delete_call : Verdict → List ℕ → ℕ → Outcome
delete_call v ws id = judged_call v ws (cond (leb (n_of ws) id) (refuse 4 ws) (push_call ws (delete id)))

abbrev pub reply_of : Held → ℕ → Reply
reply_of absent reach = empty reach
reply_of (held p) reach = found p reach

unfoldable pub delete_min_call : Verdict → List ℕ → Outcome
delete_min_call v ws =
    let a = delete_min (heap_of ws) in
    judged_call v ws (record { reply = reply_of a.pair a.reach; image = laid_back ws a.after })

-- ---- THE CONTRACTS: the outcome by the verdict that the image has

abbrev pub ByVerdict : List ℕ → (Verdict → Outcome) → Outcome → Type 0
ByVerdict ws call o = (v : Verdict) × Judged ws v × (o ≡ call v)

-- ---- ANY CALLS

pub record QueueCalls : Type 0 where
  pub fresh : ℕ → List ℕ → Outcome
  pub decrease : List ℕ → ℕ → ℕ → Outcome
  pub delete : List ℕ → ℕ → Outcome
  pub delete_min : List ℕ → Outcome

abbrev pub calls_by : (List ℕ → Verdict) → QueueCalls
calls_by judge = record {
  fresh = fresh_call;
  decrease = λ ws id key. decrease_call (judge ws) ws id key;
  delete = λ ws id. delete_call (judge ws) ws id;
  delete_min = λ ws. delete_min_call (judge ws) ws;
}
