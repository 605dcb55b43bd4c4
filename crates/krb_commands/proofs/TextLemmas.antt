-- What `format!` and `from_utf8` gave, restated.
use Rattle.std.proofs.Common.{◌≡◌, ℕ, List, refl, ◌∙◌, Result, Ok, Err, IfOk, String, MatchResult, IsOk, ◌∷◌, ◌++◌, codes, append_assoc}
use Rattle.std.specs.String.{string_bytes}
use Rattle.std.specs.Str.{IsUtf8}
use Rattle.std.specs.Global.{Global}

-- the text that was formatted is this one
pub formatted : {E : Type 0} (r : Result (String Global) E) (written text : List ℕ) → IfOk r (λ s. string_bytes s ≡ written)
    → written ≡ text → IfOk r (λ s. string_bytes s ≡ text)
formatted (Ok s) written text h e = h ∙ e
formatted (Err x) written text h e = tt

-- bytes that are text were taken as text
pub valid_text : {T E : Type 0} (P : T → Type 0) (Q : E → Type 0) (r : Result T E) (bytes : List ℕ)
    → MatchResult r P (λ e. (¬ IsUtf8 bytes) × Q e) → IsUtf8 bytes → IsOk r
valid_text P Q (Ok s) bytes h utf8 = refl
valid_text P Q (Err x) bytes h utf8 = absurd (h.0 utf8)

-- the texts of a format's holes, one after the other

pub typed_joined : (kind digits : List ℕ) → kind ++ (58 ∷ digits) ≡ kind ++ codes ":" ++ digits
typed_joined kind digits = simp append_assoc refl

pub body_joined : (user_data time usec seq sender receiver : List ℕ)
    → codes "data=" ++ (user_data ++ (codes " time=" ++ (time ++ (codes " usec=" ++ (usec ++ (codes " seq=" ++ (seq ++ (codes " from=" ++ (sender ++ (codes " to=" ++ receiver))))))))))
    ≡ codes "data=" ++ user_data ++ codes " time=" ++ time ++ codes " usec=" ++ usec ++ codes " seq=" ++ seq ++ codes " from=" ++ sender ++ codes " to=" ++ receiver
body_joined user_data time usec seq sender receiver = simp append_assoc refl

pub safe_joined : (pvno msg_type body cksum inside : List ℕ)
    → codes "SAFE " ++ (pvno ++ (codes " " ++ (msg_type ++ (codes " " ++ (body ++ (codes " cksum=" ++ (cksum ++ (inside ++ codes "\n"))))))))
    ≡ (codes "SAFE " ++ pvno ++ codes " " ++ msg_type ++ codes " " ++ body ++ codes " cksum=" ++ cksum) ++ inside ++ codes "\n"
safe_joined pvno msg_type body cksum inside = simp append_assoc refl

pub priv_joined : (pvno msg_type etype kvno cipher inside : List ℕ)
    → codes "PRIV " ++ (pvno ++ (codes " " ++ (msg_type ++ (codes " etype=" ++ (etype ++ (codes " kvno=" ++ (kvno ++ (codes " cipher=" ++ (cipher ++ (inside ++ codes "\n"))))))))))
    ≡ (codes "PRIV " ++ pvno ++ codes " " ++ msg_type ++ codes " etype=" ++ etype ++ codes " kvno=" ++ kvno ++ codes " cipher=" ++ cipher) ++ inside ++ codes "\n"
priv_joined pvno msg_type etype kvno cipher inside = simp append_assoc refl

refusal_after : (space word code name : List ℕ) → (space ++ word) ++ (code ++ (space ++ name)) ≡ space ++ (word ++ code ++ space ++ name)
refusal_after space word code name = simp append_assoc refl

pub refusal_joined : (code name : List ℕ) → codes " refused " ++ (code ++ (codes " " ++ name)) ≡ codes " " ++ (codes "refused " ++ code ++ codes " " ++ name)
refusal_joined code name = refusal_after (codes " ") (codes "refused ") code name

pub lane_joined : (lane name : List ℕ)
    → codes "lane " ++ (lane ++ (codes " " ++ (name ++ codes "\n"))) ≡ codes "lane " ++ lane ++ codes " " ++ name ++ codes "\n"
lane_joined lane name = simp append_assoc refl

-- the text of an event, after that of its lane
text_after : (front lane space word digits end : List ℕ)
    → front ++ (lane ++ ((space ++ word) ++ (digits ++ end))) ≡ front ++ lane ++ space ++ (word ++ digits) ++ end
text_after front lane space word digits end = simp append_assoc refl

pub text_joined : (lane digits : List ℕ)
    → codes "lane " ++ (lane ++ (codes " text " ++ (digits ++ codes "\n"))) ≡ codes "lane " ++ lane ++ codes " " ++ (codes "text " ++ digits) ++ codes "\n"
text_joined lane digits = text_after (codes "lane ") lane (codes " ") (codes "text ") digits (codes "\n")

pub closed_joined : (lane : List ℕ) → codes "lane " ++ (lane ++ codes " closed\n") ≡ codes "lane " ++ lane ++ codes " " ++ codes "closed" ++ codes "\n"
closed_joined lane = simp append_assoc refl

refused_after : (front lane space word code name end : List ℕ)
    → front ++ (lane ++ ((space ++ word) ++ (code ++ (space ++ (name ++ end))))) ≡ front ++ lane ++ space ++ (word ++ code ++ space ++ name) ++ end
refused_after front lane space word code name end = simp append_assoc refl

pub refused_joined : (lane code name : List ℕ)
    → codes "lane " ++ (lane ++ (codes " refused " ++ (code ++ (codes " " ++ (name ++ codes "\n")))))
    ≡ codes "lane " ++ lane ++ codes " " ++ (codes "refused " ++ code ++ codes " " ++ name) ++ codes "\n"
refused_joined lane code name = refused_after (codes "lane ") lane (codes " ") (codes "refused ") code name (codes "\n")

pub sent_joined : (k n ending : List ℕ)
    → codes "sent " ++ (k ++ (codes " of " ++ (n ++ (codes " " ++ (ending ++ codes "\n"))))) ≡ codes "sent " ++ k ++ codes " of " ++ n ++ codes " " ++ ending ++ codes "\n"
sent_joined k n ending = simp append_assoc refl

end_after : (front lane space word k of n ending name end : List ℕ)
    → front ++ (lane ++ ((space ++ word) ++ (k ++ (of ++ (n ++ (space ++ (ending ++ (space ++ (name ++ end)))))))))
    ≡ front ++ lane ++ space ++ (word ++ k ++ of ++ n ++ space ++ ending) ++ space ++ name ++ end
end_after front lane space word k of n ending name end = simp append_assoc refl

pub end_joined : (lane k n ending name : List ℕ)
    → codes "lane " ++ (lane ++ (codes " sent " ++ (k ++ (codes " of " ++ (n ++ (codes " " ++ (ending ++ (codes " " ++ (name ++ codes "\n")))))))))
    ≡ codes "lane " ++ lane ++ codes " " ++ (codes "sent " ++ k ++ codes " of " ++ n ++ codes " " ++ ending) ++ codes " " ++ name ++ codes "\n"
end_joined lane k n ending name = end_after (codes "lane ") lane (codes " ") (codes "sent ") k (codes " of ") n ending name (codes "\n")

plain_after : (front word code space name end : List ℕ) → (front ++ word) ++ (code ++ (space ++ (name ++ end))) ≡ front ++ (word ++ code ++ space ++ name) ++ end
plain_after front word code space name end = simp append_assoc refl

pub plain_joined : (code name : List ℕ)
    → codes "lane 0 refused " ++ (code ++ (codes " " ++ (name ++ codes "\n"))) ≡ codes "lane 0 " ++ (codes "refused " ++ code ++ codes " " ++ name) ++ codes "\n"
plain_joined code name = plain_after (codes "lane 0 ") (codes "refused ") code (codes " ") name (codes "\n")
