mod Seven
