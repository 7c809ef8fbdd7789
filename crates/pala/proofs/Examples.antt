-- 01's torn case, each of its "Easy errors here", M-100's stuck hall and M-104's late final, computed on the rules. Assumes nothing.
use mathlib.Core.Path.{refl}
use mathlib.Core.List.{List, [], ◌∷◌, ◌++◌}
use Prim.Native.Nat.{ℕ}
use Rattle.pala.specs.Cases.{Case, Holds, play, shown, musts, began, session, hear, hear', vote, clock, cast, genesis_name, A, B, C, E, F, A', D', E'}
use Rattle.pala.specs.Cases.Look.{the_answer, the_local, the_bar, the_finals, the_sent, the_torn}

-- "votes of 1, 2, 3"
abbrev votes : List ℕ → List (List ℕ)
votes name = vote 1 name ∷ vote 2 name ∷ vote 3 name ∷ []

-- "A' (epoch 1, genesis), D' (2, on A'), E' (3, on D') heard from 1, 2, 3, each with votes of 1, 2, 3: torn when E' is firm"; then every record answers 2
torn : List Case
torn =
    play session []
    ∷ play (hear' 1 1 A' genesis_name ∷ votes A') ((the_torn, 0 ∷ []) ∷ [])
    ∷ play (hear' 2 2 D' A' ∷ votes D') ((the_torn, 0 ∷ []) ∷ [])
    ∷ play (hear' 3 3 E' D' ∷ vote 1 E' ∷ vote 2 E' ∷ []) ((the_torn, 0 ∷ []) ∷ [])
    ∷ play (vote 3 E' ∷ []) ((the_answer, 0 ∷ []) ∷ (the_torn, 1 ∷ []) ∷ (the_local, 4 ∷ []) ∷ (the_finals, A) ∷ [])
    ∷ play (clock 1 9 ∷ []) ((the_answer, 2 ∷ []) ∷ (the_torn, 1 ∷ []) ∷ (the_finals, A) ∷ [])
    ∷ []

-- "Counting a block as firm by its own votes while an ancestor lacks them.": B has its votes, A hasn't; the local epoch stays
ancestor_lacks_votes : List Case
ancestor_lacks_votes =
    play (hear 1 1 A genesis_name ∷ hear 2 2 B A ∷ votes B) ((the_local, 1 ∷ []) ∷ (the_bar, 0 ∷ []) ∷ [])
    ∷ play (votes A) ((the_local, 3 ∷ []) ∷ (the_bar, 2 ∷ []) ∷ (the_finals, A) ∷ [])
    ∷ []

-- "Comparing the parent with the freshest block now; the bar is fixed when the epoch begins.": C of epoch 3 becomes firm within epoch 5, F on B may still be voted for
bar_is_fixed : List Case
bar_is_fixed =
    play (session ++ (clock 1 5 ∷ clock 2 5 ∷ clock 3 5 ∷ [])) ((the_local, 5 ∷ []) ∷ (the_bar, 2 ∷ []) ∷ [])
    ∷ play (hear 3 3 C B ∷ votes C) ((the_local, 5 ∷ []) ∷ (the_bar, 2 ∷ []) ∷ [])
    ∷ play (hear 1 5 F B ∷ cast ∷ []) ((the_answer, 0 ∷ []) ∷ (the_sent, vote 0 F) ∷ [])
    ∷ []

-- "Moving the final block back when a fresher chain has an earlier last normal block (E of P8, were 1, 2 and 3 to vote for it)."
kept_stays : List Case
kept_stays =
    play (session ++ (hear 1 5 E A ∷ votes E)) ((the_local, 6 ∷ []) ∷ (the_bar, 5 ∷ []) ∷ (the_finals, A) ∷ (the_torn, 0 ∷ []) ∷ [])
    ∷ []

-- "Refusing a proposal for an epoch that isn't the local one: it is stored, only not voted on."
other_epoch_stored : List Case
other_epoch_stored =
    play (session ++ (hear 1 9 C B ∷ [])) ((the_answer, 0 ∷ []) ∷ [])
    ∷ play (cast ∷ []) ((the_answer, 13 ∷ []) ∷ [])
    ∷ play (vote 1 C ∷ []) ((the_answer, 0 ∷ []) ∷ [])
    ∷ []

-- "Taking more than half for a quorum: at n=5, 3 voters aren't enough."
more_than_half : List Case
more_than_half =
    play (hear 1 1 A genesis_name ∷ votes A) ((the_local, 1 ∷ []) ∷ [])
    ∷ play (vote 4 A ∷ []) ((the_local, 2 ∷ []) ∷ (the_bar, 1 ∷ []) ∷ [])
    ∷ []

-- 02, M-100: "A hall stuck in epoch 7: two nodes' kept clock was 8, a third's had gone from 8 to 9."; it leaves epoch 7 at the second 8, and epoch 8 at the third 9
stuck_hall : List Case
stuck_hall =
    play (session ++ (clock 1 7 ∷ clock 2 7 ∷ clock 3 7 ∷ [])) ((the_local, 7 ∷ []) ∷ (the_bar, 2 ∷ []) ∷ [])
    ∷ play (clock 3 8 ∷ clock 3 9 ∷ clock 1 8 ∷ []) ((the_answer, 0 ∷ []) ∷ (the_local, 7 ∷ []) ∷ [])
    ∷ play (clock 2 8 ∷ []) ((the_answer, 0 ∷ []) ∷ (the_local, 8 ∷ []) ∷ (the_bar, 2 ∷ []) ∷ (the_finals, A) ∷ [])
    ∷ play (clock 1 9 ∷ []) ((the_answer, 0 ∷ []) ∷ (the_local, 8 ∷ []) ∷ [])
    ∷ play (clock 2 9 ∷ []) ((the_answer, 0 ∷ []) ∷ (the_local, 9 ∷ []) ∷ [])
    ∷ []

-- 02, M-104: "Take A (epoch 1), B (2, on A) and C (3, on A)."; C's votes and B's third one come in either order
early : List (List ℕ)
early = hear 1 1 A genesis_name ∷ votes A ++ (hear 2 2 B A ∷ vote 1 B ∷ vote 2 B ∷ hear 3 3 C A ∷ [])

-- "If C becomes firm before B gets its third vote": A is final once B has it
late_final : List Case
late_final =
    play (early ++ votes C) ((the_local, 4 ∷ []) ∷ (the_bar, 3 ∷ []) ∷ (the_finals, []) ∷ [])
    ∷ play (vote 3 B ∷ []) ((the_local, 4 ∷ []) ∷ (the_bar, 3 ∷ []) ∷ (the_finals, A) ∷ (the_torn, 0 ∷ []) ∷ [])
    ∷ []

early_final : List Case
early_final =
    play (early ++ (vote 3 B ∷ [])) ((the_local, 3 ∷ []) ∷ (the_bar, 2 ∷ []) ∷ (the_finals, A) ∷ [])
    ∷ play (votes C) ((the_local, 4 ∷ []) ∷ (the_bar, 3 ∷ []) ∷ (the_finals, A) ∷ (the_torn, 0 ∷ []) ∷ [])
    ∷ []

torn_holds : Holds 4 torn
unfolding began shown musts session torn
torn_holds = refl

ancestors_hold : Holds 4 ancestor_lacks_votes
unfolding began shown musts ancestor_lacks_votes
ancestors_hold = refl

bar_holds : Holds 4 bar_is_fixed
unfolding began shown musts session bar_is_fixed
bar_holds = refl

kept-holds : Holds 4 kept_stays
unfolding began shown musts session kept_stays
kept-holds = refl

other_epoch_holds : Holds 4 other_epoch_stored
unfolding began shown musts session other_epoch_stored
other_epoch_holds = refl

half_holds : Holds 5 more_than_half
unfolding began shown musts more_than_half
half_holds = refl

stuck_hall_holds : Holds 4 stuck_hall
unfolding began shown musts session stuck_hall
stuck_hall_holds = refl

late_holds : Holds 4 late_final
unfolding began shown musts early late_final
late_holds = refl

early_holds : Holds 4 early_final
unfolding began shown musts early early_final
early_holds = refl
