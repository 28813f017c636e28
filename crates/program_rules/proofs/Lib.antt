mod Deciding
